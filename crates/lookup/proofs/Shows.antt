-- A list shown in place, by the tests that the code makes. Assumes nothing.
use Prim.Native.Nat.{ℕ, ◌+◌, ◌*◌, ◌-◌, ◌≤◌, ◌<◌}
use native.Mathlib.Omega.{arith}
use mathlib.Core.Path.{◌≡◌, refl, sym}
use mathlib.Core.List.{List}
use mathlib.Core.Bool.{true, false}
use borrow.Author.Tests.{leb-true, leb-false, ltb-true, le-leb, lt-leb, lt-ltb, le-ltb}
use lib.Dec.{leb, ltb}
use lib.ListN.{length, drop}
use Rattle.model.proofs.Lists.{split, and-true}
use Rattle.wire.specs.Field.{field_at}
use Rattle.std.specs.Prelude.{Some, None, Result, Ok, Err}
use Rattle.wire.proofs.Fields.{field_is, field-not}
use Rattle.block.specs.Summary.{sum_of}
use Rattle.block.specs.declared.summary.Summary.{Summary}
use Rattle.block.specs.Body.{is_strip, tag_of}
use Rattle.shelf.specs.Walk.{bodies}
use Rattle.lookup.specs.Show.{bodies_from, has_block, summary_shown, Span, part_at, body_shown, Shown, ShownOf}
use Rattle.shelf.specs.declared.walk.Place.{Place}
use Rattle.model.specs.Outcome.{Outcome, refused, done}
use Rattle.model.specs.Refusal.{number, outcome_of}
use Rattle.model.specs.declared.refusal.Refusal.{Refusal}

-- ---- whether there is a block

leb_less : (a k n : ℕ) → k ≤ n → leb a (n - k) ≡ leb (a + k) n
leb_less a k n h =
    split (leb (a + k) n)
    (λ e. rw e (le-leb a (n - k) (omega (arith, leb-true (a + k) n e))))
    (λ e. rw e (lt-leb a (n - k) (omega (arith, leb-false (a + k) n e))))

module _ (s : List ℕ) (p : Place) (j : ℕ) where
  pub has-not : p.count ≤ j → false ≡ has_block s p j
  unfolding has_block
  has-not h = rw (le-ltb j p.count h)

  pub has_short : j < p.count → length s < 8 + 12 * p.count → false ≡ has_block s p j
  unfolding has_block
  has_short h k = rw (lt-ltb j p.count h, lt-leb (bodies_from p) (length s) (omega arith))

  pub has_room : j < p.count → 8 + 12 * p.count ≤ length s → leb p.at (length s - (8 + 12 * p.count)) ≡ has_block s p j
  unfolding has_block
  has_room h k =
      let e : p.at + (8 + 12 * p.count) ≡ bodies_from p = omega arith in
      rw (lt-ltb j p.count h, leb_less p.at (8 + 12 * p.count) (length s) k, e)

  pub has_facts : has_block s p j ≡ true → (j < p.count) × (bodies_from p ≤ length s)
  unfolding has_block
  has_facts e =
      let a = and-true (ltb j p.count) (leb (bodies_from p) (length s)) e in
      (ltb-true _ _ a.0, leb-true _ _ a.1)

  -- ---- its summary

  pub summary-here : has_block s p j ≡ true → summary_shown s (done p) j ≡ done (sum_of (is_strip (drop (bodies_from p) s)) (drop (p.at + 8 + 12 * j) s))
  unfolding summary_shown
  summary-here e = rw e

  pub summary-none : has_block s p j ≡ false → summary_shown s (done p) j ≡ refused 12 0
  unfolding summary_shown
  summary-none e = rw e

  -- ---- its body

  pub body-here : has_block s p j ≡ true → (b : ℕ) → bodies j (bodies_from p) (drop (bodies_from p) s) ≡ done b → body_shown s (done p) j ≡ part_at s b
  unfolding body_shown
  body-here e b q = rw (e, q)

  pub body-cut : has_block s p j ≡ true → (n o : ℕ) → bodies j (bodies_from p) (drop (bodies_from p) s) ≡ refused n o → body_shown s (done p) j ≡ refused 12 0
  unfolding body_shown
  body-cut e n o q = rw (e, q)

  pub body-none : has_block s p j ≡ false → body_shown s (done p) j ≡ refused 12 0
  unfolding body_shown
  body-none e = rw e

pub summary-refused : (s : List ℕ) (n o j : ℕ) → summary_shown s (refused n o) j ≡ refused n o
unfolding summary_shown
summary-refused s n o j = refl

pub body_refused : (s : List ℕ) (n o j : ℕ) → body_shown s (refused n o) j ≡ refused n o
unfolding body_shown
body_refused s n o j = refl

module _ (s : List ℕ) (b : ℕ) where
  pub part-there : (n : ℕ) → field_at (tag_of (is_strip (drop b s))) s b ≡ Some n → part_at s b ≡ done (record { start = b + 3; end = b + 3 + n })
  unfolding part_at
  part-there n e = let i = field_is (tag_of (is_strip (drop b s))) s b n e in rw (i.0, i.1)

  pub part_none : field_at (tag_of (is_strip (drop b s))) s b ≡ None → part_at s b ≡ refused 12 0
  unfolding part_at
  part_none e = rw (field-not (tag_of (is_strip (drop b s))) s b e)

-- ---- an answer whose error is the caller's own: where that is a refusal, and is made of itself

own_refusal : {A : Type 0} (o : Outcome A) (result : Result A Refusal) → Shown (λ r y. y ≡ r) o result → outcome_of result ≡ o
own_refusal o (Ok x) h = sym h
own_refusal o (Err y) (r, e, q) = rw q (sym e)

pub summary_own : (s : List ℕ) (shown : Result Place Refusal) (j : ℕ) (result : Result Summary Refusal) → ShownOf (λ r y. y ≡ r) shown (λ p. summary_shown s (done p) j) result
    → outcome_of result ≡ summary_shown s (outcome_of shown) j
summary_own s (Ok p) j result h = own_refusal (summary_shown s (done p) j) result h
summary_own s (Err e) j result h = rw h (sym (summary-refused s (number e.fault) e.offset j))

pub body_own : (s : List ℕ) (shown : Result Place Refusal) (j : ℕ) (result : Result Span Refusal) → ShownOf (λ r y. y ≡ r) shown (λ p. body_shown s (done p) j) result
    → outcome_of result ≡ body_shown s (outcome_of shown) j
body_own s (Ok p) j result h = own_refusal (body_shown s (done p) j) result h
body_own s (Err e) j result h = rw h (sym (body_refused s (number e.fault) e.offset j))
