-- The keeper's theorems. Assumes nothing.
use Prim.Native.Nat.{ℕ, zero, suc, ◌+◌, ◌≤◌, ◌<◌, ◌-◌}
use mathlib.Core.Path.{◌≡◌, refl, ap}
use mathlib.Core.Bool.{false}
use mathlib.Core.List.{List, [], ◌∷◌, ◌++◌, foldl}
use native.Mathlib.Omega.{arith}
use lib.ListN.{length, take, get_or}
use lib.Seq.{take-take, take-nil, take_at}
use Rattle.rank.specs.Rank.{Hit, ahead, beats, insert, sort, ranking, keep, keeps, best, kth, Ordered}
use Rattle.model.specs.Post.{scores}
use Rattle.model.specs.Runs.{All}
use Rattle.model.proofs.Lists.{split, All_map, All_both, All_take, get_d_bound}
use Rattle.rank.proofs.Order.{ahead_asym, behind_trans, behind-score, unbeaten_behind}

-- (a) what the keeper forgot does not matter
pub take-insert : (k : ℕ) (h : Hit) (xs : List Hit) → take k (insert h (take k xs)) ≡ take k (insert h xs)
take-insert zero h xs = refl
take-insert (suc k) h [] = refl
take-insert (suc k) h (x ∷ xs) =
    split (ahead h x)
    (λ e. rw e (cc (take-take k (suc k) (x ∷ xs) (omega arith))))
    (λ e. rw e (cc (take-insert k h xs)))

-- (b) the keeper's hits are the first k of the sorted ones
keeps-sort : (k : ℕ) (s hs : List Hit) → keeps k (take k s) hs ≡ take k (foldl (λ s h. insert h s) s hs)
keeps-sort k s [] = refl
keeps-sort k s (h ∷ hs) = rw (take-insert k h s) (keeps-sort k (insert h s) hs)

pub best-ranking : (k : ℕ) (hs : List Hit) → best k hs ≡ ranking k hs
best-ranking k hs = rw (take-nil k) at (keeps-sort k [] hs)

pub All_insert : (P : Hit → Type 0) (h : Hit) (xs : List Hit) → P h → All P xs → All P (insert h xs)
All_insert P h [] p all = (p, tt)
All_insert P h (x ∷ xs) p all =
    split (ahead h x)
    (λ e. rw e (p, all))
    (λ e. rw e (all.0, All_insert P h xs p all.1))

pub insert_ordered : (h : Hit) (xs : List Hit) → Ordered xs → Ordered (insert h xs)
insert_ordered h [] o = (tt, tt)
insert_ordered h (x ∷ xs) o =
    split (ahead h x)
    (λ e. rw e ((ahead_asym h x e, All_map xs (λ y b. behind_trans h x y (ahead_asym h x e) b) o.0), o))
    (λ e. rw e (All_insert (λ y. ahead y x ≡ false) h xs e o.0, insert_ordered h xs o.1))

pub take_ordered : (k : ℕ) (xs : List Hit) → Ordered xs → Ordered (take k xs)
take_ordered zero xs o = tt
take_ordered (suc k) [] o = tt
take_ordered (suc k) (x ∷ xs) o = (All_take (λ y. ahead y x ≡ false) k xs o.0, take_ordered k xs o.1)

inserts_ordered : (s hs : List Hit) → Ordered s → Ordered (foldl (λ s h. insert h s) s hs)
inserts_ordered s [] o = o
inserts_ordered s (h ∷ hs) o = inserts_ordered (insert h s) hs (insert_ordered h s o)

pub sort_ordered : (hs : List Hit) → Ordered (sort hs)
sort_ordered hs = inserts_ordered [] hs tt

pub insert-length : (h : Hit) (xs : List Hit) → length (insert h xs) ≡ suc (length xs)
insert-length h [] = refl
insert-length h (x ∷ xs) = split (ahead h x) (λ e. rw e refl) (λ e. rw e (ap suc (insert-length h xs)))

-- (c) hits that come behind all of a full keeper leave it as it is
insert-behind : (h : Hit) (xs : List Hit) → All (λ x. ahead h x ≡ false) xs → insert h xs ≡ xs ++ (h ∷ [])
insert-behind h [] all = refl
insert-behind h (x ∷ xs) all = rw all.0 (ap {B = List Hit} (λ l. x ∷ l) (insert-behind h xs all.1))

keep-behind : (k : ℕ) (kept : List Hit) (h : Hit) → length kept ≡ k → All (λ x. ahead h x ≡ false) kept → keep k kept h ≡ kept
keep-behind k kept h full all = rw (insert-behind h kept all) (take_at kept (h ∷ []) k full)

keeps-behind : (k : ℕ) (kept hs : List Hit) → length kept ≡ k → All (λ h. All (λ x. ahead h x ≡ false) kept) hs → keeps k kept hs ≡ kept
keeps-behind k kept [] full all = refl
keeps-behind k kept (h ∷ hs) full all = rw (keep-behind k kept h full all.0) (keeps-behind k kept hs full all.1)

-- the last of an ordered list has the least score
pub ordered_floor : (i : ℕ) (xs : List Hit) → Ordered xs → length xs ≤ suc i → All (λ x. get_or (scores xs) i 0 ≤ x.score) xs
ordered_floor i [] o l = tt
ordered_floor zero (x ∷ []) o l = (omega arith, tt)
ordered_floor zero (x ∷ y ∷ ys) o l = absurd (omega arith)
ordered_floor (suc i) (x ∷ xs) o l =
    (get_d_bound (λ (h : Hit). h.score) x.score i xs (All_map xs (λ y b. behind-score y x b) o.0), ordered_floor i xs o.1 (omega arith))

pub keeps_full : (k c : ℕ) (kept hs : List Hit) → length kept ≡ k → Ordered kept → beats c (kth k kept) ≡ false
    → All (λ h. (h.score ≤ c) × All (λ x. x.doc < h.doc) kept) hs → keeps k kept hs ≡ kept
keeps_full k c kept hs full o b all =
    keeps-behind k kept hs full
    (All_map hs (λ h w. All_both kept (λ x f d. unbeaten_behind h x c (kth k kept) b w.0 f d) (ordered_floor (k - 1) kept o (omega arith)) w.1) all)

inserts_length : (s hs : List Hit) → length (foldl (λ s h. insert h s) s hs) ≡ length s + length hs
inserts_length s [] = omega arith
inserts_length s (h ∷ hs) = omega (arith, inserts_length (insert h s) hs, insert-length h s)

pub sort-length : (hs : List Hit) → length (sort hs) ≡ length hs
sort-length hs = omega (arith, inserts_length [] hs)
