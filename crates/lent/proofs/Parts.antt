-- What is shown of a body stands within the shelf; of a list that was found it is the block's body. Assumes nothing.
use Prim.Native.Nat.{ℕ, ◌+◌, ◌-◌, ◌≤◌}
use mathlib.Core.Path.{◌≡◌, sym}
use mathlib.Core.List.{List}
use native.Mathlib.Omega.{arith}
use lib.ListN.{length, drop, length-drop}
use Rattle.std.specs.Prelude.{Result, Ok, Err}
use Rattle.std.specs.Borrow.{Bor}
use Rattle.model.specs.Outcome.{Outcome, refused, done}
use Rattle.model.specs.Refusal.{outcome_of}
use Rattle.model.specs.declared.refusal.Refusal.{Refusal}
use Rattle.model.proofs.Lists.{split}
use Rattle.wire.specs.Field.{whole}
use Rattle.wire.proofs.Fields.{whole-size}
use Rattle.block.specs.Body.{is_strip, tag_of}
use Rattle.shelf.specs.Walk.{Block, Listing, bodies}
use Rattle.shelf.specs.Answers.{placed}
use Rattle.shelf.specs.declared.walk.Place.{Place}
use Rattle.lookup.specs.Find.{found}
use Rattle.lookup.specs.Show.{bodies_from, has_block, part_at, part_past, body_shown, block_of, Span, span_of, ShownOf}
use Rattle.lookup.proofs.Showings.{shown-body, shown-bytes}
use Rattle.lookup.proofs.Shows.{body_own}
use Rattle.lent.specs.View.{bytes_of, Shows, BodyOf}
use Rattle.lent.specs.declared.view.BodyPart.{BodyPart}

-- a part that ends within the shelf
abbrev pub Inside : List ℕ → Outcome Span → Type 0
Inside s (done p) = (p.start ≤ p.end) × (p.end ≤ length s)
Inside s (refused n o) = Unit {0}

part-inside : (s : List ℕ) (b : ℕ) → Inside s (part_at s b)
unfolding part_at
part-inside s b =
    let tag = tag_of (is_strip (drop b s)) in
    split (whole tag (drop b s))
    (λ e. rw e (omega arith, omega (arith, whole-size tag (drop b s) e, length-drop b s)))
    (λ e. rw e tt)

past-inside : (s : List ℕ) (o : Outcome ℕ) → Inside s (part_past s o)
past-inside s (done b) = part-inside s b
past-inside s (refused n o) = tt

pub body-inside : (s : List ℕ) (p : Outcome Place) (j : ℕ) → Inside s (body_shown s p j)
unfolding body_shown
body-inside s (refused n o) j = tt
body-inside s (done p) j =
    split (has_block s p j) (λ e. rw e (past-inside s (bodies j (bodies_from p) (drop (bodies_from p) s)))) (λ e. rw e tt)

pub span-inside : (s : List ℕ) (p : Outcome Place) (j : ℕ) (r : Span) → body_shown s p j ≡ done r → (r.start ≤ r.end) × (r.end ≤ length s)
span-inside s p j r e = rw e at (body-inside s p j)

-- also where the error is the caller's own
pub shown_inside : {E : Type 0} (gives : Refusal → E → Type 0) (s : List ℕ) (place : Result Place E) (j : ℕ) (r : Span)
    → ShownOf gives place (λ p. body_shown s (done p) j) (Ok r) → (r.start ≤ r.end) × (r.end ≤ length s)
shown_inside gives s (Ok p) j r h = span-inside s (done p) j r h
shown_inside gives s (Err e) j r h = let z : ◌≡◌ {A = ℕ} 0 1 = cc in absurd (omega arith)

-- of a list that was found, the body of each of its blocks is shown, and the bytes shown are that body
pub body_bytes_lem : (t : ℕ) (s : List ℕ) (l : Listing) (j : ℕ) (b : Block) → found t s ≡ done l → block_of l.blocks j ≡ done b
    → (p : Span) × (body_shown s (placed (found t s)) j ≡ done p) × (bytes_of s p ≡ b.body)
body_bytes_lem t s l j b e q =
    let shown : body_shown s (placed (found t s)) j ≡ done (span_of b) = rw (shown-body t s l e j, q) in
    let n : b.body_at + 3 + length b.body - (b.body_at + 3) ≡ length b.body = omega arith in
    (span_of b, shown, rw n (shown-bytes t s l e j b q))

-- where a view's error is a refusal, and is made of itself, what is shown is so of the outcome
pub shows_own : (s : Bor (List ℕ)) (place : Result Place Refusal) (j : ℕ) (r : Result BodyPart Refusal) → BodyOf (λ x y. y ≡ x) s place j r → Shows s (body_shown s.now (outcome_of place) j) r
shows_own s place j (Ok b) h = (sym (body_own s.now place j (Ok b.at) h.span), h.part)
shows_own s place j (Err e) h = sym (body_own s.now place j (Err e) h.span)
