-- The first wrong body of some lists, met one after another. Assumes nothing.
use Prim.Native.Nat.{ℕ, zero, suc, ◌+◌, ◌-◌, ◌≤◌, ◌<◌, min}
use mathlib.Core.Path.{◌≡◌, refl, sym, ap, ◌∙◌}
use mathlib.Core.Option.{Option, none, some}
use mathlib.Core.List.{List, [], ◌∷◌}
use native.Mathlib.Omega.{arith}
use native.Mathlib.Numerals.{add-one}
use lib.ListN.{length, take, drop, get_or, drop_of_length-le}
use lib.Seq.{drop-cons}
use lib.Dec.{ltb}
use borrow.Author.Tests.{ltb-true, ltb-false}
use Rattle.model.proofs.Lists.{split}
use Rattle.block.specs.Body.{right_body}
use Rattle.block.specs.declared.summary.Summary.{Summary}
use Rattle.shelf.specs.Walk as shelf
use Rattle.shelf.specs.Blocks.{blocks_left, Rests, Finds}
use Rattle.shelf.specs.declared.blocks.Reading.{Reading}
use Rattle.prune.specs.Prune.{fault_of, fault_in, earlier}
use Rattle.exhaustive.specs.Lists.{body_of}
use Rattle.exhaustive.specs.Merge.{on_shelf, reading_at, fault_left, start_lefts, Walked, AllWalked, wrong_here}
use Rattle.exhaustive.proofs.Fillings.{no_left}
use Rattle.exhaustive.proofs.Opens.{lefts-at, lefts-long}

earlier-min : (a b : ℕ) → earlier (some a) (some b) ≡ some (min a b)
earlier-min a b = ap some (split (ltb b a) (λ e. let l : b < a = ltb-true _ _ e in rw e (omega arith)) (λ e. let l : a ≤ b = ltb-false _ _ e in rw e (omega arith)))

pub earlier-end : (a : Option ℕ) → earlier a none ≡ a
earlier-end none = refl
earlier-end (some a) = refl

earlier_on : (a b c : Option ℕ) → earlier (earlier a b) c ≡ earlier a (earlier b c)
earlier_on none b c = refl
earlier_on (some a) none c = refl
earlier_on (some a) (some b) none = refl
earlier_on (some a) (some b) (some c) =
    ap (λ (x : Option ℕ). earlier x (some c)) (earlier-min a b)
    ∙ earlier-min (min a b) c
    ∙ ap some (same a b c)
    ∙ sym (earlier-min a (min b c))
    ∙ ap (earlier (some a)) (sym (earlier-min b c))
  where
    same : (x y z : ℕ) → min (min x y) z ≡ min x (min y z)
    same x y z = omega arith

-- ---- the blocks of one list: what is left gives the answer
pub record Seeking (s : List ℕ) (all : Option ℕ) (r : Reading) (w : Option ℕ) : Type 0 where
  pub rests : Rests s r
  pub goal : earlier w (fault_in (on_shelf s r)) ≡ all

found-fault : (s : List ℕ) (r : Reading) (b : shelf.Block) (m : Summary) (v e : ℕ) (next : Reading) → b.sum ≡ m → Finds s r b v e next
    → fault_in (on_shelf s r) ≡ earlier (wrong_here s m v e) (fault_in (on_shelf s next))
found-fault s r b m v e next q f =
    let tag : v - 3 ≡ b.body_at = omega (arith, f.tag) in
    let body : fault_of (body_of b) ≡ wrong_here s m v e =
    rw (q, f.body, tag) (split (right_body m (take (e - v) (drop v s))) (λ t. rw t) (λ t. rw t)) in
    rw (f.left, body)

pub seeking_turn : (s : List ℕ) (all : Option ℕ) (r : Reading) (w w' : Option ℕ) (b : shelf.Block) (m : Summary) (v e : ℕ) (next : Reading) → b.sum ≡ m → Finds s r b v e next
    → w' ≡ earlier w (wrong_here s m v e) → Seeking s all r w → Seeking s all next w'
seeking_turn s all r w w' b m v e next q f h g = record {
  rests = f.rests;
  goal = rw h (earlier_on w (wrong_here s m v e) (fault_in (on_shelf s next)) ∙ ap (earlier w) (sym (found-fault s r b m v e next q f)) ∙ g.goal);
}

pub seeking_done : (s : List ℕ) (all : Option ℕ) (r : Reading) (w : Option ℕ) → blocks_left s r ≡ [] → Seeking s all r w → w ≡ all
seeking_done s all r w e g = sym (earlier-end w) ∙ rw e at g.goal

-- ---- all lists
pub walked_at : (s : List ℕ) (t : ℕ) (as₀ cs : List ℕ) → t < length as₀ → t < length cs → AllWalked s as₀ cs → Walked s (get_or as₀ t 0) (get_or cs t 0)
walked_at s t [] cs a b w = absurd (omega arith)
walked_at s t (x ∷ as₀) [] a b w = absurd (omega arith)
walked_at s zero (x ∷ as₀) (c ∷ cs) a b w = w.0
walked_at s (suc t) (x ∷ as₀) (c ∷ cs) a b w = walked_at s t as₀ cs (omega arith) (omega arith) w.1

module _ (s as₀ cs : List ℕ) (n : length as₀ ≡ length cs) (t : ℕ) (w : Option ℕ) where
  pub lists-turn : (w' : Option ℕ) → t < length as₀ → w' ≡ earlier w (fault_in (on_shelf s (reading_at (get_or as₀ t 0) (get_or cs t 0))))
      → earlier w (fault_left s (drop t (start_lefts as₀ cs))) ≡ fault_left s (start_lefts as₀ cs) → earlier w' (fault_left s (drop (t + 1) (start_lefts as₀ cs))) ≡ fault_left s (start_lefts as₀ cs)
  lists-turn w' l h g =
      let X = fault_in (on_shelf s (reading_at (get_or as₀ t 0) (get_or cs t 0))) in
      let rest = fault_left s (drop (suc t) (start_lefts as₀ cs)) in
      let at : get_or (start_lefts as₀ cs) t no_left ≡ record { blocks = reading_at (get_or as₀ t 0) (get_or cs t 0); top = 0 } = sym (lefts-at t as₀ cs l (omega arith)) in
      let cut : fault_left s (drop t (start_lefts as₀ cs)) ≡ earlier X rest = rw (drop-cons (start_lefts as₀ cs) t no_left (omega (arith, lefts-long as₀ cs n)), at) in
      rw (h, add-one t) (earlier_on w X rest ∙ ap (earlier w) (sym cut) ∙ g)

  pub lists-done : length as₀ ≤ t → earlier w (fault_left s (drop t (start_lefts as₀ cs))) ≡ fault_left s (start_lefts as₀ cs) → w ≡ fault_left s (start_lefts as₀ cs)
  lists-done l g =
      let e : drop t (start_lefts as₀ cs) ≡ [] = drop_of_length-le (start_lefts as₀ cs) (le) in
      sym (earlier-end w) ∙ rw e at g
    where
      le : length (start_lefts as₀ cs) ≤ t
      le = omega (arith, lefts-long as₀ cs n)
