-- The block that a docid meets, by its number: how the search finds it, whose body it is, and when it is a new one. Assumes nothing.
use Prim.Native.Nat.{ℕ, zero, suc, ◌+◌, ◌≤◌, ◌<◌}
use mathlib.Core.Path.{◌≡◌, refl, sym, ◌∙◌}
use mathlib.Core.Bool.{cond, ◌&&◌}
use mathlib.Core.List.{List}
use native.Mathlib.Omega.{arith}
use lib.Dec.{ltb, leb, eqb}
use lib.ListN.{length, get_or, set, length-set}
use lib.Seq.{get_or-set_same, get_or-set_other}
use borrow.Author.Tests.{lt-leb, le-leb, ltb-true, ltb-false, lt-ltb, le-ltb, eqb-true, eqb-false, eq-eqb, ne_eqb}
use Rattle.model.proofs.Lists.{split, and-false}
use Rattle.prune.specs.Cut.{Block, meets, Rises}
use Rattle.prune.specs.Prune.{body_at}
use Rattle.prune.specs.Loop.{met_index}
use Rattle.prune.proofs.Loopings.{opens_one}
use Rattle.opening.specs.Table.{numbered, gap}
use Rattle.model.specs.Limits.{max_terms}
use Rattle.opening.specs.Meet.{met_from, Reaches, met_at, Moved, AllMoved}
use Rattle.opening.specs.Enter.{body_of, is_new}
use Rattle.opening.proofs.Numbers.{numbered-length, First}

-- ---- the blocks by their numbers

ltb-suc : (a b : ℕ) → ltb (suc a) (suc b) ≡ ltb a b
ltb-suc a b = split (ltb a b) (λ e. lt-ltb (suc a) (suc b) (omega (arith, ltb-true a b e)) ∙ sym e) (λ e. le-ltb (suc a) (suc b) (omega (arith, ltb-false a b e)) ∙ sym e)

opens-new : (x y n f : ℕ) → f + n ≤ gap → cond (ltb y n) (cond (eqb x y) 0 1) 0 ≡ is_new (cond (ltb x n) (f + x) gap) (cond (ltb y n) (f + y) gap)
opens-new x y n f l =
    split (ltb y n)
    (λ e. let b : y < n = ltb-true y n e in
    rw (e, ne_eqb (f + y) gap (omega arith))
    (split (ltb x n)
    (λ g. rw g (split (eqb x y)
    (λ s. rw (s, eq-eqb (f + x) (f + y) (omega (arith, eqb-true x y s))))
    (λ s. let w : (x ≡ y → ⊥) = eqb-false x y s in rw (s, ne_eqb (f + x) (f + y) (omega arith)))))
    (λ g. rw (g, ne_eqb x y (omega (arith, ltb-false x n g)), ne_eqb gap (f + y) (omega arith)))))
    (λ e. rw e)

module _ (B : ℕ → Block) where
  abbrev pub met : (n f d : ℕ) → ℕ
  met n f d = met_from (λ i. (B i).least) (λ i. (B i).greatest) n f d

  -- below all blocks
  pub met_low : (p n f d : ℕ) → d ≤ p → Rises p (numbered B n f) → met n f d ≡ gap
  met_low p zero f d l r = refl
  met_low p (suc n) f d l r = rw (lt-leb (B f).least d (omega (arith, r.0))) (met_low (B f).greatest n (suc f) d (omega (arith, r.0, r.1)) r.2)

  -- the place that was reached: all blocks before it end below d, and the one there does not
  pub met-reached : (p n f j d : ℕ) → Rises p (numbered B n f) → f ≤ j → j ≤ f + n → ((i : ℕ) → f ≤ i → i < j → (B i).greatest < d) → (j < f + n → d ≤ (B j).greatest)
      → met n f d ≡ cond (ltb j (f + n) && leb (B j).least d) j gap
  met-reached p zero f j d r a b h e = rw (le-ltb j (f + 0) (omega arith))
  met-reached p (suc n) f j d r a b h e =
      split (eqb f j)
      (λ s. let q : f ≡ j = eqb-true f j s in
      let u : d ≤ (B f).greatest = rw (sym q) at (e (omega arith)) in
      rw (sym q, lt-ltb f (f + suc n) (omega arith), le-leb d (B f).greatest u)
      (split (leb (B f).least d) (λ s. rw s) (λ s. rw s (met_low (B f).greatest n (suc f) d u r.2))))
      (λ s. let w : (f ≡ j → ⊥) = eqb-false f j s in
      let q : f < j = omega arith in
      let z : suc f + n ≡ f + suc n = omega arith in
      rw (lt-leb d (B f).greatest (h f (omega arith) q), and-false (leb (B f).least d), sym z)
      (met-reached (B f).greatest n (suc f) j d r.2 q (omega arith) (λ i k l. h i (omega arith) l) (λ l. e (omega arith))))

  -- whose body it is
  pub met-body : (n f d : ℕ) → f + n ≤ gap → body_at (numbered B n f) d ≡ body_of B (met n f d)
  met-body zero f d l = refl
  met-body (suc n) f d l =
      split (meets (B f) d)
      (λ e. rw (e, ne_eqb f gap (omega arith)))
      (λ e. rw e (met-body n (suc f) d (omega arith)))

  -- by its place in the list
  met-index : (n f d : ℕ) → met n f d ≡ cond (ltb (met_index (numbered B n f) d) n) (f + met_index (numbered B n f) d) gap
  met-index zero f d = refl
  met-index (suc n) f d =
      split (meets (B f) d)
      (λ e. let z : f + 0 ≡ f = omega arith in rw (e, lt-ltb 0 (suc n) (omega arith), z))
      (λ e. let x = met_index (numbered B n (suc f)) d in
      let z : f + suc x ≡ suc f + x = omega arith in
      rw (e, ltb-suc x n, z) (met-index n (suc f) d))

  index_most : (n f d : ℕ) → met_index (numbered B n f) d ≤ n
  index_most zero f d = omega arith
  index_most (suc n) f d = split (meets (B f) d) (λ e. rw e (omega arith)) (λ e. rw e (omega (arith, index_most n (suc f) d)))

  -- when it is a new one
  pub met-new : (n f q d : ℕ) → f + n ≤ gap → opens_one (numbered B n f) q d ≡ is_new (met n f q) (met n f d)
  met-new n f q d l =
      rw (numbered-length B n f, met-index n f q, met-index n f d)
      (opens-new (met_index (numbered B n f) q) (met_index (numbered B n f) d) n f l)

-- ---- the loop that moves the lists on

-- the first of the blocks from `from` up to `end` that does not end below d
pub reaches_first : (his : List ℕ) (from end d r : ℕ) → First (λ x. x < d) (λ x. d ≤ x) his from end r → Reaches his from end d r
reaches_first his from end d r f = record { on = f.on; upto = f.upto; below = f.before; ends = f.found }

pub record Moving (los his ends ats₀ mets₀ ats mets : List ℕ) (d t : ℕ) : Type 0 where
  pub within : t ≤ max_terms
  pub places : length ats ≡ max_terms
  pub blocks : length mets ≡ max_terms
  pub moved : (u : ℕ) → u < t → Moved los his ends ats₀ ats mets d u
  pub rest : (u : ℕ) → t ≤ u → get_or ats u 0 ≡ get_or ats₀ u 0

pub moving_none : (los his ends ats mets : List ℕ) (d : ℕ) → length ats ≡ max_terms → length mets ≡ max_terms → Moving los his ends ats mets ats mets d 0
moving_none los his ends ats mets d a m = record { within = omega arith; places = a; blocks = m; moved = λ u l. absurd (omega arith); rest = λ u l. refl }

pub moving_more : (los his ends ats₀ mets₀ ats mets : List ℕ) (d t j m : ℕ) → t < max_terms → Moving los his ends ats₀ mets₀ ats mets d t
    → Reaches his (get_or ats t 0) (get_or ends t 0) d j → m ≡ met_at los (get_or ends t 0) d j
    → Moving los his ends ats₀ mets₀ (set ats t j) (set mets t m) d (t + 1)
moving_more los his ends ats₀ mets₀ ats mets d t j m l w r e = record {
  within = omega arith;
  places = length-set ats t j ∙ w.places;
  blocks = length-set mets t m ∙ w.blocks;
  moved = λ u k. split (eqb u t)
      (λ s. let q : u ≡ t = eqb-true u t s in
      rw (q) (record {
        reached = rw (get_or-set_same ats t j 0 (omega (arith, w.places)), ← w.rest t (omega arith)) r;
        met = rw (get_or-set_same ats t j 0 (omega (arith, w.places)), get_or-set_same mets t m 0 (omega (arith, w.blocks))) e;
      }))
      (λ s. let n : (u ≡ t → ⊥) = eqb-false u t s in
      let v = w.moved u (omega arith) in
      record {
        reached = rw (get_or-set_other ats t u j 0 n) v.reached;
        met = rw (get_or-set_other ats t u j 0 n, get_or-set_other mets t u m 0 n) v.met;
      });
  rest = λ u k. get_or-set_other ats t u j 0 (omega arith) ∙ w.rest u (omega arith);
}

pub moving_done : (los his ends ats₀ mets₀ ats mets : List ℕ) (d t : ℕ) → max_terms ≤ t → Moving los his ends ats₀ mets₀ ats mets d t → AllMoved los his ends ats₀ ats mets d
moving_done los his ends ats₀ mets₀ ats mets d t l w = record { places = w.places; blocks = w.blocks; each = λ u k. w.moved u (omega arith) }
