-- The block that an interval meets, the state of the loop over intervals, and what the ceilings are once all lists are in. Assumes nothing.
use Prim.Native.Nat.{ℕ, zero, suc, ◌+◌, ◌*◌, ◌≤◌, ◌<◌}
use mathlib.Core.Path.{◌≡◌, refl, sym, ◌∙◌}
use mathlib.Core.List.{List, [], ◌∷◌, ◌++◌, map, append_assoc}
use native.Mathlib.Omega.{arith}
use lib.Dec.{leb}
use lib.ListN.{length, get_or, take, drop, set, length-set}
use native.Mathlib.Numerals.{add-one}
use lib.Seq.{drop-set-lt}
use borrow.Author.Tests.{le-leb, lt-leb}
use Rattle.std.specs.List.{AllWithin}
use Rattle.model.specs.Outcome.{done}
use Rattle.model.specs.Runs.{All, Asc}
use Rattle.model.proofs.Lists.{and-false, All_map}
use Rattle.prune.specs.Cut.{Block, Listing, top_at, ceiling_at, Rises}
use Rattle.prune.proofs.Merges.{drop_at}
use Rattle.model.proofs.Storing.{front-more, past_more}
use Rattle.prune.specs.Gather.{blocks_of, Summaries, Reached, raise}

-- The block that a docid meets, by the place that was reached
top_low : (n d : ℕ) (bs : List Block) → d ≤ n → Rises n bs → top_at bs d ≡ 0
top_low n d [] l r = refl
top_low n d (b ∷ bs) l r = rw (lt-leb b.least d (omega (arith, r.0))) (top_low b.greatest d bs (omega (arith, r.0, r.1)) r.2)

-- a block that ends below `d` is passed over
top-pass : (l g t d : ℕ) (bs : List Block) → g < d → top_at (record { least = l; greatest = g; top = t; body = done [] } ∷ bs) d ≡ top_at bs d
top-pass l g t d bs h = rw (lt-leb d g h, and-false (leb l d))

top-past : (los his tops : List ℕ) (d j : ℕ) → length los ≡ length his → length los ≡ length tops → All (λ g. g < d) (take j his) → length los ≤ j → top_at (blocks_of los his tops) d ≡ 0
top-past [] his tops d j a b all l = refl
top-past (x ∷ los) [] tops d j a b all l = refl
top-past (x ∷ los) (g ∷ his) [] d j a b all l = refl
top-past (x ∷ los) (g ∷ his) (t ∷ tops) d zero a b all l = absurd (omega arith)
top-past (x ∷ los) (g ∷ his) (t ∷ tops) d (suc j) a b all l =
    top-pass x g t d (blocks_of los his tops) all.0 ∙ top-past los his tops d j (omega arith) (omega arith) all.1 (omega arith)

top-gap : (los his tops : List ℕ) (n d j : ℕ) → length los ≡ length his → length los ≡ length tops → Rises n (blocks_of los his tops) → All (λ g. g < d) (take j his)
    → j < length los → d < get_or los j 0 → top_at (blocks_of los his tops) d ≡ 0
top-gap [] his tops n d j a b r all l h = refl
top-gap (x ∷ los) [] tops n d j a b r all l h = refl
top-gap (x ∷ los) (g ∷ his) [] n d j a b r all l h = refl
top-gap (x ∷ los) (g ∷ his) (t ∷ tops) n d zero a b r all l h =
    rw (lt-leb x d h) (top_low g d (blocks_of los his tops) (omega (arith, r.1)) r.2)
top-gap (x ∷ los) (g ∷ his) (t ∷ tops) n d (suc j) a b r all l h =
    top-pass x g t d (blocks_of los his tops) all.0 ∙ top-gap los his tops g d j (omega arith) (omega arith) r.2 all.1 (omega arith) h

top-met : (los his tops : List ℕ) (d j : ℕ) → length los ≡ length his → length los ≡ length tops → All (λ g. g < d) (take j his)
    → j < length los → get_or los j 0 ≤ d → d ≤ get_or his j 0 → get_or tops j 0 ≡ top_at (blocks_of los his tops) d
top-met [] his tops d j a b all l h m = absurd (omega arith)
top-met (x ∷ los) [] tops d j a b all l h m = absurd (omega arith)
top-met (x ∷ los) (g ∷ his) [] d j a b all l h m = absurd (omega arith)
top-met (x ∷ los) (g ∷ his) (t ∷ tops) d zero a b all l h m = rw (le-leb x d h, le-leb d g m)
top-met (x ∷ los) (g ∷ his) (t ∷ tops) d (suc j) a b all l h m =
    top-met los his tops d j (omega arith) (omega arith) all.1 (omega arith) h m ∙ sym (top-pass x g t d (blocks_of los his tops) all.0)

module _ (los his tops : List ℕ) (d j : ℕ) (q : Summaries los his tops) (w : Reached his d j) where
  pub reached-past : length los ≤ j → 0 ≡ top_at (blocks_of los his tops) d
  reached-past l = sym (top-past los his tops d j q.his-even q.tops-even w.below l)

  pub reached-gap : j < length los → d < get_or los j 0 → 0 ≡ top_at (blocks_of los his tops) d
  reached-gap l h = sym (top-gap los his tops 0 d j q.his-even q.tops-even q.rises w.below l h)

  pub reached-met : j < length los → get_or los j 0 ≤ d → get_or tops j 0 ≡ top_at (blocks_of los his tops) d
  reached-met l h = top-met los his tops d j q.his-even q.tops-even w.below l h (w.ends (omega (arith, q.his-even)))

-- what is below `d` up to a place, and from there on
below_each : (d n : ℕ) (his : List ℕ) → ((k : ℕ) → k < n → k < length his → get_or his k 0 < d) → All (λ g. g < d) (take n his)
below_each d zero his f = tt
below_each d (suc n) [] f = tt
below_each d (suc n) (x ∷ his) f = (f 0 (omega arith) (omega arith), below_each d n his (λ k l m. f (suc k) (omega arith) (omega arith)))

pub below-part : (d from n : ℕ) (his : List ℕ) → All (λ g. g < d) (take from his) → AllWithin (λ g. g < d) (drop from his) 0 n → All (λ g. g < d) (take (from + n) his)
below-part d zero n his all f = let z : 0 + n ≡ n = omega arith in rw z (below_each d n his (λ k l m. f k 0 (omega arith) l))
below-part d (suc i) n [] all f = let z : suc i + n ≡ suc (i + n) = omega arith in rw z tt
below-part d (suc i) n (x ∷ his) all f = let z : suc i + n ≡ suc (i + n) = omega arith in rw z (all.0, below-part d i n his all.1 f)

-- from one interval to the next
asc_at : (n k : ℕ) (xs : List ℕ) → Asc n xs → k + 1 < length xs → get_or xs k 0 < get_or xs (suc k) 0
asc_at n k [] a l = absurd (omega arith)
asc_at n zero (x ∷ []) a l = absurd (omega arith)
asc_at n zero (x ∷ y ∷ xs) a l = a.1.0
asc_at n (suc k) (x ∷ xs) a l = asc_at x k xs a.1 (omega arith)

pub below_next : (starts his : List ℕ) (j k : ℕ) → Asc 0 starts → All (λ g. g < get_or starts k 0) (take j his) → k + 1 < length starts → All (λ g. g < get_or starts (k + 1) 0) (take j his)
below_next starts his j k a all l =
    let rise : get_or starts k 0 < get_or starts (k + 1) 0 = rw (add-one k) (asc_at 0 k starts a l) in
    All_map {P = λ g. g < get_or starts k 0} (take j his) (λ g m. omega arith) all

-- The state of `raise_all`
pub record Raising (w : ℕ) (bs : List Block) (ds old out : List ℕ) (k : ℕ) : Type 0 where
  pub k-in : k ≤ length ds
  pub same : length out ≡ length old
  pub rest : raise w bs ds old ≡ take k out ++ raise w bs (drop k ds) (drop k out)
  pub past : drop k out ≡ drop k old

pub raising_more : (w : ℕ) (bs : List Block) (ds old out : List ℕ) (k t : ℕ) → length ds ≤ length old → Raising w bs ds old out k → k < length ds
    → t ≡ top_at bs (get_or ds k 0) → Raising w bs ds old (set out k (get_or out k 0 + w * t)) (k + 1)
raising_more w bs ds old out k t h s l e =
    let room : k < length out = omega (arith, s.same) in
    let x = get_or out k 0 + w * t in
    let later : drop (k + 1) (set out k x) ≡ drop (k + 1) out = drop-set-lt (k + 1) out k x (omega arith) in
    record {
      k-in = omega arith;
      same = length-set out k x ∙ s.same;
      rest = s.rest ∙ rw (drop_at ds k l, drop_at out k room, ← e, front-more out k x room, later)
          (sym (append_assoc (take k out) (x ∷ []) (raise w bs (drop (k + 1) ds) (drop (k + 1) out))));
      past = past_more old out k x s.past;
    }

-- All lists: where the ceilings of the first lists stand, one more raises them to its own
ceiling_snoc : (ls : List Listing) (l : Listing) (d : ℕ) → ceiling_at (ls ++ (l ∷ [])) d ≡ ceiling_at ls d + l.weight * top_at l.blocks d
ceiling_snoc [] l d = omega arith
ceiling_snoc (x ∷ ls) l d = omega (arith, ceiling_snoc ls l d)

pub raise-list : (ls : List Listing) (l : Listing) (ds past : List ℕ)
    → raise l.weight l.blocks ds (map (ceiling_at ls) ds ++ past) ≡ map (ceiling_at (ls ++ (l ∷ []))) ds ++ past
raise-list ls l [] past = refl
raise-list ls l (d ∷ ds) past = rw (ceiling_snoc ls l d, raise-list ls l ds past)
