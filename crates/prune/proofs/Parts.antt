-- The intervals: a partition of 1 to the limit, in which each docid of an interval meets the same blocks, and the smallest such. Assumes nothing.
use Prim.Native.Nat.{ℕ, ◌+◌, ◌-◌, ◌*◌, ◌≤◌, ◌<◌}
use mathlib.Core.Path.{◌≡◌, refl, sym, ap, ◌∙◌}
use mathlib.Core.Bool.{true, false≢true}
use mathlib.Core.Logic.{◌⊎◌, inl, inr}
use mathlib.Core.List.{List, [], ◌∷◌, map}
use native.Mathlib.Omega.{arith}
use lib.Dec.{ltb, leb, eqb}
use lib.ListN.{length}
use borrow.Author.Tests.{ltb-true, ltb-false, leb-false, le-leb, lt-leb, eqb-true}
use Rattle.model.specs.Limits.{max_terms, per_list}
use Rattle.model.specs.Runs.{has, Asc, All}
use Rattle.prune.specs.Cut.{Block, Listing, Interval, meets, edges, all_edges, keeps_cut, cuts, starts, intervals_from, intervals, lies, how_many, sees, top_at, ceiling_at, ceiling, Full}
use Rattle.model.proofs.Lists.{split, both_ways, and-true, All_map, All_front, All_rest}
use Rattle.model.proofs.Runs.{has_le, has-append, All_has}
use Rattle.rank.proofs.Matches.{inside-first, inside-last}
use Rattle.prune.proofs.Cuts.{keeps_low, cuts_asc, cuts-most, cut_edge, cuts-count, blocks-most}

-- A docid in range is in exactly one interval
none_below : (lim d lo : ℕ) (cs : List ℕ) → d < lo → Asc lo cs → how_many d (intervals_from lim lo cs) ≡ 0
none_below lim d lo [] l a = rw (lt-leb lo d l)
none_below lim d lo (c ∷ cs) l a = rw (lt-leb lo d l, none_below lim d c cs (omega arith) a.1)

one_from : (lim d lo : ℕ) (cs : List ℕ) → lo ≤ d → d ≤ lim → Asc lo cs → how_many d (intervals_from lim lo cs) ≡ 1
one_from lim d lo [] l m a = rw (le-leb lo d l, le-leb d lim m)
one_from lim d lo (c ∷ cs) l m a =
    split (ltb d c)
    (λ e. let k : d < c = ltb-true _ _ e in rw (le-leb lo d l, le-leb d (c - 1) (omega arith), none_below lim d c cs k a.1))
    (λ e. let k : c ≤ d = ltb-false _ _ e in rw (le-leb lo d l, lt-leb d (c - 1) (omega arith), one_from lim d c cs k m a.1))

pub exactly-one : (lim : ℕ) (ls : List Listing) (d : ℕ) → 1 ≤ d → d ≤ lim → how_many d (intervals lim ls) ≡ 1
exactly-one lim ls d l m = one_from lim d 1 (cuts lim ls) l m (cuts_asc lim ls)

-- no interval is empty or leaves the range
ranges_from : (lim lo : ℕ) (cs : List ℕ) → 1 ≤ lo → lo ≤ lim → Asc lo cs → All (λ c. c ≤ lim) cs
    → All (λ v. (1 ≤ v.first) × (v.first ≤ v.last) × (v.last ≤ lim)) (intervals_from lim lo cs)
ranges_from lim lo [] l h a m = ((l, h, omega arith), tt)
ranges_from lim lo (c ∷ cs) l h a m = ((l, omega arith, omega arith), ranges_from lim c cs (omega arith) m.0 a.1 m.1)

pub in-range : (lim : ℕ) (ls : List Listing) → 1 ≤ lim → All (λ v. (1 ≤ v.first) × (v.first ≤ v.last) × (v.last ≤ lim)) (intervals lim ls)
in-range lim ls h = ranges_from lim 1 (cuts lim ls) (omega arith) h (cuts_asc lim ls) (cuts-most lim ls)

-- their first docids are the starts
firsts-from : (lim lo : ℕ) (cs : List ℕ) → map (λ (v : Interval). v.first) (intervals_from lim lo cs) ≡ lo ∷ cs
firsts-from lim lo [] = refl
firsts-from lim lo (c ∷ cs) = ap {B = List ℕ} (λ t. lo ∷ t) (firsts-from lim c cs)

pub firsts : (lim : ℕ) (ls : List Listing) → map (λ (v : Interval). v.first) (intervals lim ls) ≡ starts lim ls
firsts lim ls = firsts-from lim 1 (cuts lim ls)

-- how many
count-from : (lim lo : ℕ) (cs : List ℕ) → length (intervals_from lim lo cs) ≡ length cs + 1
count-from lim lo [] = refl
count-from lim lo (c ∷ cs) = omega (arith, count-from lim c cs)

-- "There are at most 1,025 intervals."
pub at_most : (lim : ℕ) (ls : List Listing) → length ls ≤ max_terms → All (λ l. length l.blocks ≤ per_list) ls → length (intervals lim ls) ≤ 2 * (max_terms * per_list) + 1
at_most lim ls n m = omega (arith, count-from lim 1 (cuts lim ls), cuts-count lim ls, blocks-most max_terms per_list ls n m)

-- An interval has no edge lies it
abbrev pub Clear : ℕ → ℕ → List ℕ → Type 0
Clear lo hi es = All (λ e. (e ≤ lo) ⊎ (hi < e)) es

abbrev Placed : ℕ → ℕ → List ℕ → ℕ → Type 0
Placed lim lo cs e = (e ≤ lo) ⊎ ((has e cs ≡ true) ⊎ (lim < e))

all_placed : (lim : ℕ) (ls : List Listing) → All (Placed lim 1 (cuts lim ls)) (all_edges ls)
all_placed lim ls =
    All_has (Placed lim 1 (cuts lim ls)) (all_edges ls)
    (λ e h. split (ltb 1 e)
    (λ p. split (leb e lim)
    (λ q. inr (inl (cut_edge lim ls e ∙ rw (p, q) h)))
    (λ q. inr (inr (leb-false _ _ q))))
    (λ p. inl (ltb-false _ _ p)))

placed-clear : (lim lo c : ℕ) (cs : List ℕ) (e : ℕ) → Asc lo (c ∷ cs) → c ≤ lim → Placed lim lo (c ∷ cs) e → (e ≤ lo) ⊎ (c - 1 < e)
placed-clear lim lo c cs e a m (inl h) = inl h
placed-clear lim lo c cs e a m (inr (inl h)) = inr (omega (arith, has_le lo e c cs a h))
placed-clear lim lo c cs e a m (inr (inr h)) = inr (omega arith)

placed-next : (lim lo c : ℕ) (cs : List ℕ) (e : ℕ) → lo < c → Placed lim lo (c ∷ cs) e → Placed lim c cs e
placed-next lim lo c cs e l (inl h) = inl (omega arith)
placed-next lim lo c cs e l (inr (inl h)) = split (eqb e c) (λ q. inl (omega (arith, eqb-true e c q))) (λ q. inr (inl (rw q at h)))
placed-next lim lo c cs e l (inr (inr h)) = inr (inr h)

placed-last : (lim lo e : ℕ) → Placed lim lo [] e → (e ≤ lo) ⊎ (lim < e)
placed-last lim lo e (inl h) = inl h
placed-last lim lo e (inr (inl h)) = absurd (false≢true h)
placed-last lim lo e (inr (inr h)) = inr h

clear-from : (lim lo : ℕ) (cs es : List ℕ) → Asc lo cs → All (λ c. c ≤ lim) cs → All (Placed lim lo cs) es
    → All (λ v. Clear v.first v.last es) (intervals_from lim lo cs)
clear-from lim lo [] es a m w = (All_map es (λ e p. placed-last lim lo e p) w, tt)
clear-from lim lo (c ∷ cs) es a m w = (
  All_map es (λ e p. placed-clear lim lo c cs e a m.0 p) w,
  clear-from lim c cs es a.1 m.1 (All_map es (λ e p. placed-next lim lo c cs e a.0 p) w),
)

pub all-clear : (lim : ℕ) (ls : List Listing) → All (λ v. Clear v.first v.last (all_edges ls)) (intervals lim ls)
all-clear lim ls = clear-from lim 1 (cuts lim ls) (all_edges ls) (cuts_asc lim ls) (cuts-most lim ls) (all_placed lim ls)

-- so each docid of it meets the same blocks
leb-same : (e lo d hi : ℕ) → (e ≤ lo) ⊎ (hi < e) → lo ≤ d → d ≤ hi → leb e d ≡ leb e lo
leb-same e lo d hi (inl h) l m = le-leb e d (omega arith) ∙ sym (le-leb e lo h)
leb-same e lo d hi (inr h) l m = lt-leb e d (omega arith) ∙ sym (lt-leb e lo (omega arith))

leb_same' : (g lo d hi : ℕ) → (g + 1 ≤ lo) ⊎ (hi < g + 1) → lo ≤ d → d ≤ hi → leb d g ≡ leb lo g
leb_same' g lo d hi (inl h) l m = lt-leb d g (omega arith) ∙ sym (lt-leb lo g (omega arith))
leb_same' g lo d hi (inr h) l m = le-leb d g (omega arith) ∙ sym (le-leb lo g (omega arith))

module _ (lo d hi : ℕ) (l : lo ≤ d) (m : d ≤ hi) where
  row_same : (bs : List Block) → Clear lo hi (edges bs) → map (λ b. meets b d) bs ≡ map (λ b. meets b lo) bs
  row_same [] c = refl
  row_same (b ∷ bs) c = rw (leb-same b.least lo d hi c.0 l m, leb_same' b.greatest lo d hi c.1.0 l m, row_same bs c.1.1)

  pub sees-same : (ls : List Listing) → Clear lo hi (all_edges ls) → sees ls d ≡ sees ls lo
  sees-same [] c = refl
  sees-same (x ∷ ls) c =
      rw (
        row_same x.blocks (All_front (λ e. (e ≤ lo) ⊎ (hi < e)) (edges x.blocks) (all_edges ls) c),
        sees-same ls (All_rest (λ e. (e ≤ lo) ⊎ (hi < e)) (edges x.blocks) (all_edges ls) c),
      )

pub same_blocks : (lim : ℕ) (ls : List Listing) → All (λ v. (d : ℕ) → lies v d ≡ true → sees ls d ≡ sees ls v.first) (intervals lim ls)
same_blocks lim ls =
    All_map (intervals lim ls)
    (λ v c d i. sees-same v.first d v.last (inside-first v.first v.last d i) (inside-last v.first v.last d i) ls c) (all-clear lim ls)

-- The ceiling goes by the blocks met
top-sees : (bs : List Block) (d e : ℕ) → map (λ b. meets b d) bs ≡ map (λ b. meets b e) bs → top_at bs d ≡ top_at bs e
top-sees [] d e q = refl
top-sees (b ∷ bs) d e q =
    let h : meets b d ≡ meets b e = cc in
    let r : map (λ b. meets b d) bs ≡ map (λ b. meets b e) bs = cc in
    rw (h, top-sees bs d e r)

pub ceiling-sees : (ls : List Listing) (d e : ℕ) → sees ls d ≡ sees ls e → ceiling_at ls d ≡ ceiling_at ls e
ceiling-sees [] d e q = refl
ceiling-sees (l ∷ ls) d e q =
    let h : map (λ b. meets b d) l.blocks ≡ map (λ b. meets b e) l.blocks = cc in
    let r : sees ls d ≡ sees ls e = cc in
    rw (top-sees l.blocks d e h, ceiling-sees ls d e r)

pub same-ceiling : (lim : ℕ) (ls : List Listing) → All (λ v. (d : ℕ) → lies v d ≡ true → ceiling_at ls d ≡ ceiling ls v) (intervals lim ls)
same-ceiling lim ls = All_map (intervals lim ls) (λ v f d i. ceiling-sees ls d v.first (f d i)) (same_blocks lim ls)

-- Across a cut the blocks met differ
row_differs : (bs : List Block) (c : ℕ) → All (λ b. b.least ≤ b.greatest) bs → 1 < c → has c (edges bs) ≡ true
    → map (λ b. meets b (c - 1)) bs ≡ map (λ b. meets b c) bs → ⊥
row_differs [] c f l h q = false≢true h
row_differs (b ∷ bs) c f l h q =
    let same : meets b (c - 1) ≡ meets b c = cc in
    let rest : map (λ b. meets b (c - 1)) bs ≡ map (λ b. meets b c) bs = cc in
    split (eqb c b.least)
    (λ e. let k : c ≡ b.least = eqb-true _ _ e in
    both_ways (meets b c) (rw (le-leb b.least c (omega arith), le-leb c b.greatest (omega arith))) (sym same ∙ rw (lt-leb b.least (c - 1) (omega arith))))
    (λ e. split (eqb c (b.greatest + 1))
    (λ g. let k : c ≡ b.greatest + 1 = eqb-true _ _ g in
    both_ways (meets b (c - 1)) (rw (le-leb b.least (c - 1) (omega arith), le-leb (c - 1) b.greatest (omega arith))) (same ∙ rw (le-leb b.least c (omega arith), lt-leb c b.greatest (omega arith))))
    (λ g. row_differs bs c f.1 l (rw (e, g) at h) rest))

sees_differs : (ls : List Listing) (c : ℕ) → Full ls → 1 < c → has c (all_edges ls) ≡ true → sees ls (c - 1) ≡ sees ls c → ⊥
sees_differs [] c f l h q = false≢true h
sees_differs (x ∷ ls) c f l h q =
    let row : map (λ b. meets b (c - 1)) x.blocks ≡ map (λ b. meets b c) x.blocks = cc in
    let rest : sees ls (c - 1) ≡ sees ls c = cc in
    split (has c (edges x.blocks))
    (λ e. row_differs x.blocks c f.0 l e row)
    (λ e. sees_differs ls c f.1 l (rw (has-append c (edges x.blocks) (all_edges ls), e) at h) rest)

pub cut_differs : (lim : ℕ) (ls : List Listing) → Full ls → All (λ c. (1 < c) × (sees ls (c - 1) ≡ sees ls c → ⊥)) (cuts lim ls)
cut_differs lim ls f =
    All_has (λ c. (1 < c) × (sees ls (c - 1) ≡ sees ls c → ⊥)) (cuts lim ls)
    (λ c h. let w : (keeps_cut lim c ≡ true) × (has c (all_edges ls) ≡ true) = and-true (keeps_cut lim c) (has c (all_edges ls)) (sym (cut_edge lim ls c) ∙ h) in
    let l : 1 < c = keeps_low lim c w.0 in (l, λ q. sees_differs ls c f l w.1 q))

-- so a stretch in which each docid meets the same blocks lies in one interval: the partition is the smallest
smallest-from : (lim lo : ℕ) (cs : List ℕ) (ls : List Listing) (x y : ℕ) → x ≤ y → y ≤ lim
    → ((z : ℕ) → x ≤ z → z ≤ y → sees ls z ≡ sees ls x) → All (λ c. (1 < c) × (sees ls (c - 1) ≡ sees ls c → ⊥)) cs
    → All (λ v. lies v x ≡ true → lies v y ≡ true) (intervals_from lim lo cs)
smallest-from lim lo [] ls x y l m s w = (
  (λ i. rw (le-leb lo y (omega (arith, inside-first lo lim x i)), le-leb y lim m)),
  tt,
)
smallest-from lim lo (c ∷ cs) ls x y l m s w = (
  (λ i. let p : lo ≤ x = inside-first lo (c - 1) x i in
      let q : x ≤ c - 1 = inside-last lo (c - 1) x i in
      split (leb y (c - 1))
      (λ e. rw (le-leb lo y (omega arith), e))
      (λ e. let k : c - 1 < y = leb-false _ _ e in
      absurd (w.0.1 (s (c - 1) q (omega arith) ∙ sym (s c (omega arith) (omega arith)))))),
  smallest-from lim c cs ls x y l m s w.1,
)

pub smallest : (lim : ℕ) (ls : List Listing) (x y : ℕ) → Full ls → x ≤ y → y ≤ lim → ((z : ℕ) → x ≤ z → z ≤ y → sees ls z ≡ sees ls x)
    → All (λ v. lies v x ≡ true → lies v y ≡ true) (intervals lim ls)
smallest lim ls x y f l m s = smallest-from lim 1 (cuts lim ls) ls x y l m s (cut_differs lim ls f)

-- and two neighbouring intervals differ: some block is met in one and not in the other
abbrev pub Apart : List Listing → ℕ → List ℕ → Type 0
Apart ls lo [] = Unit {0}
Apart ls lo (c ∷ cs) = (sees ls lo ≡ sees ls c → ⊥) × Apart ls c cs

apart_from : (lim lo : ℕ) (cs : List ℕ) (ls : List Listing) → Asc lo cs
    → All (λ v. (d : ℕ) → lies v d ≡ true → sees ls d ≡ sees ls v.first) (intervals_from lim lo cs)
    → All (λ c. (1 < c) × (sees ls (c - 1) ≡ sees ls c → ⊥)) cs → Apart ls lo cs
apart_from lim lo [] ls a s w = tt
apart_from lim lo (c ∷ cs) ls a s w = (
  (λ q. w.0.1 (s.0 (c - 1) (rw (le-leb lo (c - 1) (omega arith), le-leb (c - 1) (c - 1) (omega arith))) ∙ q)),
  apart_from lim c cs ls a.1 s.1 w.1,
)

pub neighbours : (lim : ℕ) (ls : List Listing) → Full ls → Apart ls 1 (cuts lim ls)
neighbours lim ls f = apart_from lim 1 (cuts lim ls) ls (cuts_asc lim ls) (same_blocks lim ls) (cut_differs lim ls f)
