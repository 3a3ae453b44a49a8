-- Loops over the lists of a sound shelf, and the place of a term's list in it: the pieces before it, and those after it. Assumes nothing.
use Prim.Native.Nat.{ℕ, ◌+◌, ◌-◌, ◌≤◌, ◌<◌}
use native.Mathlib.Omega.{arith}
use mathlib.Core.Path.{◌≡◌, refl, sym, ap, ◌∙◌}
use mathlib.Core.List.{List, [], ◌∷◌}
use mathlib.Core.Bool.{cond}
use borrow.Author.Tests.{leb-true, leb-false, ltb-true, ltb-false, eqb-true, eqb-false, lt-ltb, le-ltb, eq-eqb, ne_eqb}
use lib.Dec.{leb, ltb, eqb}
use lib.ListN.{length, drop}
use Rattle.model.specs.Limits.{max_lists, max_shelf}
use Rattle.model.specs.Outcome.{Outcome, refused, done}
use Rattle.model.proofs.Lists.{split}
use Rattle.shelf.specs.Walk.{Listing, list, onto}
use Rattle.shelf.specs.Check.{checked}
use Rattle.shelf.specs.Answers.{placed}
use Rattle.shelf.specs.Cursor.{start, past, walk_step, lists_at, listing_at}
use Rattle.shelf.specs.Step.{WalkStep}
use Rattle.shelf.specs.Step as step
use Rattle.shelf.specs.declared.walk.Place.{Place}
use Rattle.shelf.specs.declared.walk.Walk.{Walk}
use Rattle.shelf.proofs.Walks.{list-is, list-walked}
use Rattle.shelf.proofs.Steps.{step_large, step_end, step_full, step-list, step-not, walk_start, turn, walk_end, walk-fault}
use Rattle.shelf.proofs.Sounds.{sound-walk}
use Rattle.change.specs.Seat.{seat_of}
use Rattle.change.specs.declared.seat.Seat.TheVariants.{Taken, Free}

-- ---- where the walk stands

-- a list that was found begins where the walk stood, and the walk stands at its end
pub record Onward (s : List ℕ) (w : Walk) (p : Place) (next : Walk) : Type 0 where
  pub starts : p.at ≡ w.at
  pub ends : next.at ≡ p.next
  pub some : p.at < p.next
  pub within : p.next ≤ length s

abbrev Tells : List ℕ → Walk → WalkStep → Type 0
Tells s w (step.List p next) = Onward s w p next
Tells s w step.End = length s ≤ w.at
Tells s w (step.Fault k o) = Unit {0}

module _ (s : List ℕ) (w : Walk) where
  module _ (small : length s ≤ max_shelf) (some : w.at < length s) (z : w.left ≡ 0 → ⊥) where
    tells_list : (r : Outcome Place) → placed (list w.floor w.at (drop w.at s)) ≡ r → Tells s w (walk_step s w)
    tells_list (refused k o) e = rw (step-not s w small some z k o e) tt
    tells_list (done p) e =
        let o = list-is (list w.floor w.at (drop w.at s)) p e in
        let k = list-walked w.floor w.at s o.0 o.1 in
        let a : o.0.place.at ≡ p.at = ap (λ (x : Place). x.at) o.2 in
        let n : o.0.place.next ≡ p.next = ap (λ (x : Place). x.next) o.2 in
        let f : Onward s w p (past (w.left - 1) p) =
        record { starts = omega (arith, k.start); ends = refl; some = omega (arith, k.start, k.above); within = omega (arith, k.within) } in
        rw (step-list s w small some z p e) f

  tells : Tells s w (walk_step s w)
  tells =
      split (leb (length s) max_shelf)
      (λ e. let small = leb-true _ _ e in
      split (ltb w.at (length s))
      (λ f. let some = ltb-true _ _ f in
      split (eqb w.left 0)
      (λ g. let z : w.left ≡ 0 = eqb-true _ _ g in rw (step_full s w small some z) tt)
      (λ g. tells_list small some (eqb-false _ _ g) (placed (list w.floor w.at (drop w.at s))) refl))
      (λ f. let over = ltb-false _ _ f in rw (step_end s w small over) over))
      (λ e. let h = leb-false _ _ e in rw (step_large s w h) tt)

  pub onward : (p : Place) (next : Walk) → walk_step s w ≡ step.List p next → Onward s w p next
  onward p next e = rw e at tells

  pub at-end : walk_step s w ≡ step.End → length s ≤ w.at
  at-end e = rw e at tells

pub at-start : (w : Walk) → w ≡ start → w.at ≡ 0
unfolding start
at-start w e = ap (λ (x : Walk). x.at) e

pub left_all : (w : Walk) → w ≡ start → w.left ≡ max_lists
unfolding start
left_all w e = ap (λ (x : Walk). x.left) e

-- ---- the lists that are left of a sound shelf

pub left-start : (s : List ℕ) (ls : List Listing) → checked s ≡ done ls → (w : Walk) → w ≡ start → lists_at s w ≡ done ls
left-start s ls c w e = rw e (sym (walk_start s) ∙ (sound-walk s ls c).0)

-- the list that was found is the first of them
pub record First (s : List ℕ) (rest : List Listing) (p : Place) (next : Walk) : Type 0 where
  pub more : List Listing
  pub is : rest ≡ listing_at s p ∷ more
  pub left : lists_at s next ≡ done more

module _ (s : List ℕ) (w : Walk) (rest : List Listing) (e : lists_at s w ≡ done rest) where
  pub first-of : (p : Place) (next : Walk) → walk_step s w ≡ step.List p next → First s rest p next
  first-of p next q = go (lists_at s next) refl (sym (turn s w p next q).lists ∙ e)
    where
      go : (r : Outcome (List Listing)) → lists_at s next ≡ r → onto (listing_at s p) r ≡ done rest → First s rest p next
      go (refused k o) f x = let z : ◌≡◌ {A = ℕ} 0 1 = cc in absurd (omega arith)
      go (done more) f x = record { more = more; is = (cc); left = f }

  -- at its end none is left
  pub none-left : walk_step s w ≡ step.End → rest ≡ []
  none-left q = let f : done [] ≡ done rest = sym (walk_end s w q) ∙ e in cc

  -- and no step is refused
  pub no_fault : {C : Type 0} → (k o : ℕ) → walk_step s w ≡ step.Fault k o → C
  no_fault k o q =
      let f : refused k o ≡ done rest = sym (walk-fault s w k o q) ∙ e in
      let z : ◌≡◌ {A = ℕ} 0 1 = cc in
      absurd (omega arith)

-- ---- the seat of term t: what is left is sought as the whole

pub record Seating (s : List ℕ) (t : ℕ) (ls : List Listing) (w : Walk) : Type 0 where
  pub rest : List Listing
  pub left : lists_at s w ≡ done rest
  pub same : seat_of t w.at rest ≡ seat_of t 0 ls

pub seat_start : (s : List ℕ) (t : ℕ) (ls : List Listing) → checked s ≡ done ls → (w : Walk) → w ≡ start → Seating s t ls w
seat_start s t ls c w e = record { rest = ls; left = left-start s ls c w e; same = ap (λ (x : ℕ). seat_of t x ls) (at-start w e) }

module _ (s : List ℕ) (t : ℕ) (ls : List Listing) (w : Walk) (c : Seating s t ls w) where
  pub seat_end : w.at ≤ length s → walk_step s w ≡ step.End → Free (length s) ≡ seat_of t 0 ls
  seat_end h q =
      let z : length s ≡ w.at = omega (arith, at-end s w q) in
      ap Free z ∙ sym (ap (λ (x : List Listing). seat_of t w.at x) (none-left s w c.rest c.left q)) ∙ c.same

  module _ (p : Place) (next : Walk) (q : walk_step s w ≡ step.List p next) where
    turned : (m : First s c.rest p next) → seat_of t 0 ls ≡ cond (ltb t p.term) (Free w.at) (cond (eqb t p.term) (Taken p) (seat_of t p.next m.more))
    turned m = sym c.same ∙ ap (λ (x : List Listing). seat_of t w.at x) m.is

    pub seat_before : t < p.term → Free p.at ≡ seat_of t 0 ls
    seat_before h =
        let m = first-of s w c.rest c.left p next q in
        ap Free (onward s w p next q).starts ∙ sym (turned m ∙ rw (lt-ltb t p.term h))

    pub seat_here : t ≡ p.term → Taken p ≡ seat_of t 0 ls
    seat_here h =
        let m = first-of s w c.rest c.left p next q in
        sym (turned m ∙ rw (le-ltb t p.term (omega arith), eq-eqb t p.term h))

    pub seat_on : p.term < t → Seating s t ls next
    seat_on h =
        let m = first-of s w c.rest c.left p next q in
        record {
          rest = m.more;
          left = m.left;
          same = ap (λ (x : ℕ). seat_of t x m.more) (onward s w p next q).ends
              ∙ sym (turned m ∙ rw (le-ltb t p.term (omega arith), ne_eqb t p.term (λ (z : t ≡ p.term). omega arith)));
        }

-- ---- the number of lists

pub record Counting (s : List ℕ) (ls : List Listing) (w : Walk) (n : ℕ) : Type 0 where
  pub rest : List Listing
  pub left : lists_at s w ≡ done rest
  pub count : n + length rest ≡ length ls

pub count-start : (s : List ℕ) (ls : List Listing) → checked s ≡ done ls → (w : Walk) → w ≡ start → Counting s ls w 0
count-start s ls c w e = record { rest = ls; left = left-start s ls c w e; count = omega arith }

module _ (s : List ℕ) (ls : List Listing) (w : Walk) (n : ℕ) (c : Counting s ls w n) where
  pub count-end : walk_step s w ≡ step.End → n ≡ length ls
  count-end q = omega (arith, c.count, ap length (none-left s w c.rest c.left q))

  pub count-on : (p : Place) (next : Walk) → walk_step s w ≡ step.List p next → Counting s ls next (n + 1)
  count-on p next q =
      let m = first-of s w c.rest c.left p next q in
      record { rest = m.more; left = m.left; count = omega (arith, c.count, ap length m.is) }
