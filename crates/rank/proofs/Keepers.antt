-- The kth score, the keeper while docids rise, and asking for more. Assumes nothing.
use Prim.Native.Nat.{ℕ, zero, suc, ◌≤◌, ◌<◌, ◌-◌}
use mathlib.Core.Path.{◌≡◌}
use mathlib.Core.Bool.{false}
use mathlib.Core.List.{List, [], ◌∷◌}
use native.Mathlib.Omega.{arith}
use lib.Dec.{ltb}
use borrow.Author.Tests.{ltb-true, ltb-false}
use lib.ListN.{length, take, get_or, length-take, get_or-eq_default}
use lib.Seq.{take-take, get_or-take}
use Rattle.model.specs.Post.{Rising, last_doc, scores}
use Rattle.model.specs.Runs.{All}
use Rattle.model.proofs.Lists.{split, both_ways, All_map, All_take, map-take, map-length, get_d_bound}
use Rattle.rank.specs.Rank.{Hit, beats, insert, sort, ranking, keep, keeps, best, kth, Ordered}
use Rattle.rank.proofs.Order.{behind-score, beats-none}
use Rattle.rank.proofs.Ranks.{All_insert, insert_ordered, take_ordered, sort_ordered}

-- The kth score is above 0 only where there are k hits
pub kth-short : (k : ℕ) (hs : List Hit) → length hs < k → kth k hs ≡ 0
kth-short k hs l = get_or-eq_default (scores hs) 0 (rw (map-length (λ (h : Hit). h.score) hs) (omega arith))

-- a positive ceiling that does not beat the kth score: k hits are there
pub unbeaten_full : (k c : ℕ) (hs : List Hit) → 0 < c → beats c (kth k hs) ≡ false → k ≤ length hs
unbeaten_full k c hs p b =
    split (ltb (length hs) k)
    (λ e. both_ways (beats c (kth k hs)) (rw (kth-short k hs (ltb-true _ _ e)) (beats-none c p)) b)
    (λ e. ltb-false _ _ e)

pub kth-take : (k : ℕ) (hs : List Hit) → 1 ≤ k → kth k (take k hs) ≡ kth k hs
kth-take k hs l = rw (map-take (λ (h : Hit). h.score) k hs) (get_or-take k (scores hs) (k - 1) 0 (omega arith))

-- What holds of the keeper when all docids up to `n` have been seen
pub record Upto (k n : ℕ) (kept : List Hit) : Type 0 where
  pub ordered : Ordered kept
  pub few : length kept ≤ k
  pub low : All (λ x. x.doc ≤ n) kept

pub upto-none : (k n : ℕ) → Upto k n []
upto-none k n = record { ordered = tt; few = omega arith; low = tt }

keep-upto : (k n : ℕ) (kept : List Hit) (h : Hit) → Upto k n kept → n < h.doc → Upto k h.doc (keep k kept h)
keep-upto k n kept h i l = record {
  ordered = take_ordered k (insert h kept) (insert_ordered h kept i.ordered);
  few = rw length-take (omega arith);
  low = All_take (λ x. x.doc ≤ h.doc) k (insert h kept) (All_insert (λ x. x.doc ≤ h.doc) h kept (omega arith) (All_map kept (λ x d. omega arith) i.low));
}

All_keeps : (P : Hit → Type 0) (k : ℕ) (kept hs : List Hit) → All P kept → All P hs → All P (keeps k kept hs)
All_keeps P k kept [] a b = a
All_keeps P k kept (h ∷ hs) a b = All_keeps P k (keep k kept h) hs (All_take P k (insert h kept) (All_insert P h kept b.0 a)) b.1

pub keeps-upto : (k n : ℕ) (kept hs : List Hit) → Upto k n kept → Rising n hs → Upto k (last_doc n hs) (keeps k kept hs)
keeps-upto k n kept [] i r = i
keeps-upto k n kept (h ∷ hs) i r = keeps-upto k h.doc (keep k kept h) hs (keep-upto k n kept h i r.0) r.1

pub best-upto : (k n : ℕ) (hs : List Hit) → Rising 0 hs → All (λ h. h.doc ≤ n) hs → Upto k n (best k hs)
best-upto k n hs r a =
    let w : Upto k (last_doc 0 hs) (best k hs) = keeps-upto k 0 [] hs (upto-none k 0) r in
    record { ordered = w.ordered; few = w.few; low = All_keeps (λ h. h.doc ≤ n) k [] hs tt a }

-- "the first j hits for k are the hits for j"
pub ranking-more : (j k : ℕ) (hs : List Hit) → j ≤ k → take j (ranking k hs) ≡ ranking j hs
ranking-more j k hs l = take-take j k (sort hs) l

falling : (i j : ℕ) (xs : List Hit) → Ordered xs → i ≤ j → get_or (scores xs) j 0 ≤ get_or (scores xs) i 0
falling i j [] o l = omega arith
falling zero zero (x ∷ xs) o l = omega arith
falling zero (suc j) (x ∷ xs) o l = get_d_bound (λ (h : Hit). h.score) x.score j xs (All_map xs (λ y b. behind-score y x b) o.0)
falling (suc i) zero (x ∷ xs) o l = absurd (omega arith)
falling (suc i) (suc j) (x ∷ xs) o l = falling i j xs o.1 (omega arith)

pub kth-more : (j k : ℕ) (hs : List Hit) → j ≤ k → kth k (sort hs) ≤ kth j (sort hs)
kth-more j k hs l = falling (j - 1) (k - 1) (sort hs) (sort_ordered hs) (omega arith)
