-- What a walk that was not refused found: each list stands in the shelf at its place, and its blocks are those that stand there. Assumes nothing.
use Prim.Native.Nat.{ℕ, zero, suc, ◌≤◌, ◌<◌}
use native.Mathlib.Omega.{arith}
use native.Mathlib.Nat.{le_refl}
use mathlib.Core.Path.{◌≡◌, refl, sym, subst, ◌∙◌}
use mathlib.Core.List.{List, [], ◌∷◌}
use borrow.Author.Tests.{leb-true, le-leb, eqb-true}
use lib.Dec.{leb, eqb}
use lib.ListN.{length}
use Rattle.model.specs.Limits.{per_list, max_lists, max_shelf}
use Rattle.model.specs.Outcome.{Outcome, refused, done, and_then}
use Rattle.model.specs.Runs.{All}
use Rattle.model.proofs.Lists.{split, All_map}
use Rattle.shelf.specs.Walk.{Listing, blocks_of, blocks_at, onto, lists, walk}
use Rattle.shelf.specs.Answers.{Ready}
use Rattle.shelf.specs.Cursor.{start, walk_step, lists_at, listing_at}
use Rattle.lookup.specs.Find.{find_of, found}
use Rattle.lookup.specs.Gather.{no_list, term_list, place_at, term_blocks}
use Rattle.shelf.specs.declared.walk.Walk.{Walk}
use Rattle.shelf.specs.Step.{WalkStep}
use Rattle.shelf.specs.Step as step
use Rattle.shelf.proofs.Steps.{walk_start, turn, walk_end, walk-fault}

pub record Standing (s : List ℕ) (l : Listing) : Type 0 where
  pub ready : Ready s l.place
  pub blocks : l.blocks ≡ blocks_at s l.place.at l.place.count

onto-done : (l : Listing) (r : Outcome (List Listing)) (ls : List Listing) → onto l r ≡ done ls → (ms : List Listing) × (r ≡ done ms) × (ls ≡ l ∷ ms)
onto-done l (refused n o) ls e = let z : ◌≡◌ {A = ℕ} 0 1 = cc in absurd (omega arith)
onto-done l (done ms) ls e = (ms, refl, (cc))

one_stands : (s : List ℕ) (w : Walk) (ls : List Listing) → lists_at s w ≡ done ls →
    ((next : Walk) → next.left < w.left → (ms : List Listing) → lists_at s next ≡ done ms → All (Standing s) ms) →
    (x : WalkStep) → walk_step s w ≡ x → All (Standing s) ls
one_stands s w ls e rest (step.List p next) q =
    let t = turn s w p next q in
    let o = onto-done (listing_at s p) (lists_at s next) ls (sym t.lists ∙ e) in
    rw o.2 (record { ready = t.ready; blocks = refl }, rest next t.fewer o.0 o.1)
one_stands s w ls e rest step.End q = let f : ls ≡ [] = cc (walk_end s w q) in rw f tt
one_stands s w ls e rest (step.Fault k o) q =
    let f : refused k o ≡ done ls = sym (walk-fault s w k o q) ∙ e in let z : ◌≡◌ {A = ℕ} 0 1 = cc in absurd (omega arith)

left-stand : (n : ℕ) (s : List ℕ) (w : Walk) → w.left ≤ n → (ls : List Listing) → lists_at s w ≡ done ls → All (Standing s) ls
left-stand zero s w h ls e = one_stands s w ls e (λ next l ms f. absurd (omega arith)) (walk_step s w) refl
left-stand (suc n) s w h ls e = one_stands s w ls e (λ next l ms f. left-stand n s next (omega arith) ms f) (walk_step s w) refl

-- ---- a shelf that was walked

module _ (s : List ℕ) (ls : List Listing) (e : walk s ≡ done ls) where
  pub walk_stands : All (Standing s) ls
  walk_stands = left-stand start.left s start (le_refl start.left) ls (sym (walk_start s) ∙ e)

  pub walk-size : length s ≤ max_shelf
  unfolding walk
  walk-size =
      split (leb (length s) max_shelf)
      (λ b. leb-true _ _ b)
      (λ b. let f : refused 6 0 ≡ done ls = rw b at e in let z : ◌≡◌ {A = ℕ} 0 1 = cc in absurd (omega arith))

  pub walk-lists : lists max_lists 0 0 s ≡ done ls
  unfolding walk
  walk-lists = rw (le-leb (length s) max_shelf walk-size) at e

-- ---- the list of a term

pub term-has : (P : Listing → Type 0) → P no_list → (t : ℕ) (ls : List Listing) → All P ls → P (term_list t ls)
term-has P none t [] all = none
term-has P none t (l ∷ ls) all =
    split (eqb l.place.term t) (λ b. rw b all.0) (λ b. rw b (term-has P none t ls all.1))

blocks-none : (s : List ℕ) → [] ≡ blocks_at s 0 0
unfolding blocks_at blocks_of
blocks-none s = refl

module _ (s : List ℕ) (ls : List Listing) (e : walk s ≡ done ls) (t : ℕ) where
  -- none is a list without blocks, at 0
  pub term-blocks : term_blocks t ls ≡ blocks_at s (place_at t ls).at (place_at t ls).count
  term-blocks =
      term-has (λ (l : Listing). l.blocks ≡ blocks_at s l.place.at l.place.count) (blocks-none s) t ls
      (All_map ls (λ l (h : Standing s l). h.blocks) (walk_stands s ls e))

  pub term-ready : 0 < (place_at t ls).count → Ready s (place_at t ls)
  term-ready =
      term-has (λ (l : Listing). 0 < l.place.count → Ready s l.place) (λ h. absurd (omega arith)) t ls
      (All_map ls (λ l (h : Standing s l) m. h.ready) (walk_stands s ls e))

  pub term_few : (place_at t ls).count ≤ per_list
  term_few =
      term-has (λ (l : Listing). l.place.count ≤ per_list) (omega arith) t ls
      (All_map ls (λ l (h : Standing s l). h.ready.few) (walk_stands s ls e))

-- ---- a list that was found

-- it is of the term, and has what all lists have
pub find_has : (P : Listing → Type 0) (t : ℕ) (ls : List Listing) (l : Listing) → find_of t ls ≡ done l → All P ls → P l × (l.place.term ≡ t)
find_has P t [] l e all = let z : ◌≡◌ {A = ℕ} 0 1 = cc in absurd (omega arith)
find_has P t (m ∷ ls) l e all =
    split (eqb m.place.term t)
    (λ b. let f : done m ≡ done l = rw b at e in let q : m ≡ l = cc in subst (λ (x : Listing). P x × (x.place.term ≡ t)) q (all.0, eqb-true m.place.term t b))
    (λ b. find_has P t ls l (rw b at e) all.1)

pub found_stands : (t : ℕ) (s : List ℕ) (l : Listing) → found t s ≡ done l → Standing s l
unfolding found
found_stands t s l e = go (walk s) refl e
  where
    go : (r : Outcome (List Listing)) → walk s ≡ r → and_then r (λ ls. find_of t ls) ≡ done l → Standing s l
    go (refused n o) w q = let z : ◌≡◌ {A = ℕ} 0 1 = cc in absurd (omega arith)
    go (done ls) w q = (find_has (λ (x : Listing). Standing s x) t ls l q (walk_stands s ls w)).0
