-- The walk's step, by the tests that the code makes; and what a step says of the lists that are left. Assumes nothing.
use Prim.Native.Nat.{ℕ, zero, suc, ◌+◌, ◌-◌, ◌≤◌, ◌<◌}
use native.Mathlib.Omega.{arith}
use native.Mathlib.Numerals.{sub-one}
use mathlib.Core.Path.{◌≡◌, refl, sym, ap, ◌∙◌}
use mathlib.Core.List.{List, [], ◌∷◌}
use borrow.Author.Tests.{le-leb, lt-leb, leb-true, leb-false, ltb-true, ltb-false, eqb-true, eqb-false}
use lib.Dec.{leb, ltb, eqb}
use lib.ListN.{length, get_or, drop}
use Rattle.model.specs.Limits.{max_shelf}
use Rattle.model.specs.Outcome.{Outcome, refused, done}
use Rattle.model.proofs.Lists.{split, rest_cons, rest-none}
use Rattle.shelf.specs.Walk.{Block, Listing, blocks_at, list, onto, lists, walk}
use Rattle.shelf.specs.Answers.{placed, Ready}
use Rattle.shelf.specs.Cursor.{start, past, stepped, step_of, walk_step, lists_at, listing_at}
use Rattle.shelf.specs.declared.walk.Place.{Place}
use Rattle.shelf.specs.declared.walk.Walk.{Walk}
use Rattle.shelf.specs.Step.{WalkStep}
use Rattle.shelf.specs.Step as step
use Rattle.shelf.proofs.Walks.{Walked, list-is, list-not, list-walked, lists-none, lists_full, lists-step, lists-stop}

-- ---- the step, by its tests

one_more : (n floor at b : ℕ) (s : List ℕ) → (n ≡ 0 → ⊥) → step_of n floor at (b ∷ s) ≡ stepped (n - 1) (list floor at (b ∷ s))
unfolding step_of
one_more zero floor at b s z = absurd (z refl)
one_more (suc n) floor at b s z = rw sub-one

module _ (s : List ℕ) (w : Walk) where
  pub step_large : max_shelf < length s → walk_step s w ≡ step.Fault 6 0
  unfolding walk_step
  step_large h = rw (lt-leb (length s) max_shelf h)

  module _ (small : length s ≤ max_shelf) where
    pub step_end : length s ≤ w.at → walk_step s w ≡ step.End
    unfolding walk_step step_of
    step_end h = rw (le-leb (length s) max_shelf small, rest-none s w.at h)

    module _ (some : w.at < length s) where
      pub step_full : w.left ≡ 0 → walk_step s w ≡ step.Fault 6 w.at
      unfolding walk_step step_of
      step_full z = rw (le-leb (length s) max_shelf small, rest_cons s w.at some, z)

      step-more : (w.left ≡ 0 → ⊥) → walk_step s w ≡ stepped (w.left - 1) (list w.floor w.at (drop w.at s))
      unfolding walk_step
      step-more z =
          rw (le-leb (length s) max_shelf small, rest_cons s w.at some) (one_more w.left w.floor w.at (get_or s w.at 0) (drop (w.at + 1) s) z)

      pub step-list : (w.left ≡ 0 → ⊥) → (p : Place) → placed (list w.floor w.at (drop w.at s)) ≡ done p → walk_step s w ≡ step.List p (past (w.left - 1) p)
      step-list z p e =
          let i = list-is (list w.floor w.at (drop w.at s)) p e in
          rw (step-more z, i.1, i.2)

      pub step-not : (w.left ≡ 0 → ⊥) → (k o : ℕ) → placed (list w.floor w.at (drop w.at s)) ≡ refused k o → walk_step s w ≡ step.Fault k o
      step-not z k o e = rw (step-more z, list-not (list w.floor w.at (drop w.at s)) k o e)

-- ---- what is left of the walk, by the step

pub walk_start : (s : List ℕ) → walk s ≡ lists_at s start
unfolding walk lists_at start
walk_start s = refl

-- a list was found at p, and `next` is the walk past it
pub record Turn (s : List ℕ) (w : Walk) (p : Place) (next : Walk) : Type 0 where
  pub lists : lists_at s w ≡ onto (listing_at s p) (lists_at s next)
  pub ready : Ready s p
  pub rise : w.floor ≤ p.term
  pub above : next.floor ≡ p.term + 1
  pub fewer : next.left < w.left

abbrev Tells : List ℕ → Walk → WalkStep → Type 0
Tells s w (step.List p next) = Turn s w p next
Tells s w step.End = lists_at s w ≡ done []
Tells s w (step.Fault k o) = lists_at s w ≡ refused k o

module _ (s : List ℕ) (w : Walk) where
  large : max_shelf < length s → lists_at s w ≡ refused 6 0
  unfolding lists_at
  large h = rw (lt-leb (length s) max_shelf h)

within : (s : List ℕ) (w : Walk) → length s ≤ max_shelf → lists_at s w ≡ lists w.left w.floor w.at (drop w.at s)
unfolding lists_at
within s w h = rw (le-leb (length s) max_shelf h)

listing_is : (floor at : ℕ) (s : List ℕ) (l : Listing) → Walked floor s at l → l ≡ listing_at s l.place
listing_is floor at s l k =
    let e : l.blocks ≡ blocks_at s l.place.at l.place.count = k.blocks ∙ ap (λ (x : ℕ). blocks_at s x l.place.count) (sym k.start) in
    ap (λ (bs : List Block). record { place = l.place; blocks = bs }) e

module _ (s : List ℕ) (w : Walk) (small : length s ≤ max_shelf) (some : w.at < length s) (z : w.left ≡ 0 → ⊥) where
  tells_list : (r : Outcome Listing) → list w.floor w.at (drop w.at s) ≡ r → Tells s w (stepped (w.left - 1) r)
  tells_list (refused k o) e = within s w small ∙ lists-stop w.left w.floor w.at s some z k o e
  tells_list (done l) e =
      let k = list-walked w.floor w.at s l e in
      let next = past (w.left - 1) l.place in
      record {
        lists = within s w small ∙ lists-step w.left w.floor w.at s some z l e
            ∙ ap (λ (x : Listing). onto x (lists (w.left - 1) (l.place.term + 1) l.place.next (drop l.place.next s))) (listing_is w.floor w.at s l k)
            ∙ ap (λ (r : Outcome (List Listing)). onto (listing_at s l.place) r) (sym (within s next small));
        ready = k.ready;
        rise = k.rise;
        above = refl;
        fewer = omega arith;
      }

tells : (s : List ℕ) (w : Walk) → Tells s w (walk_step s w)
tells s w =
    split (leb (length s) max_shelf)
    (λ e. let small = leb-true _ _ e in
    split (ltb w.at (length s))
    (λ f. let some = ltb-true _ _ f in
    split (eqb w.left 0)
    (λ g. let z : w.left ≡ 0 = eqb-true _ _ g in rw (step_full s w small some z) (within s w small ∙ lists_full w.left w.floor w.at s some z))
    (λ g. let z : w.left ≡ 0 → ⊥ = eqb-false _ _ g in rw (step-more s w small some z) (tells_list s w small some z (list w.floor w.at (drop w.at s)) refl)))
    (λ f. let over = ltb-false _ _ f in rw (step_end s w small over) (within s w small ∙ lists-none w.left w.floor w.at s over)))
    (λ e. let h = leb-false _ _ e in rw (step_large s w h) (large s w h))

module _ (s : List ℕ) (w : Walk) where
  pub turn : (p : Place) (next : Walk) → walk_step s w ≡ step.List p next → Turn s w p next
  turn p next e = rw e at (tells s w)

  pub walk_end : walk_step s w ≡ step.End → lists_at s w ≡ done []
  walk_end e = rw e at (tells s w)

  pub walk-fault : (k o : ℕ) → walk_step s w ≡ step.Fault k o → lists_at s w ≡ refused k o
  walk-fault k o e = rw e at (tells s w)
