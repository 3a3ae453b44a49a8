-- Lists with an element put in, and postings of docids beside scores. Assumes nothing.
use Prim.Native.Nat.{ℕ, zero, suc, ◌+◌, ◌-◌, ◌≤◌, ◌<◌}
use mathlib.Core.Path.{◌≡◌, refl, sym, ap, ◌∙◌}
use mathlib.Core.Bool.{false}
use mathlib.Core.List.{List, [], ◌∷◌, ◌++◌}
use native.Mathlib.Omega.{arith}
use native.Mathlib.Numerals.{add-one}
use lib.ListN.{length, take, drop, get_or, set, length-append, length-take, length-drop, get_or-eq_default}
use lib.Seq.{take_all, take-take, take_at, drop_at, get_or-take, length-take-le}
use lib.Dec.{ltb}
use borrow.Author.Tests.{ltb-true, ltb-false}
use Rattle.model.proofs.Lists.{split}
use Rattle.rank.specs.Rank.{Hit, ahead, insert, keep, kth, Ordered}
use Rattle.model.specs.Post.{docs, scores, post, postings}
use Rattle.rank.proofs.Ranks.{insert_ordered, take_ordered}
use Rattle.rank.proofs.Places.{insert-at, behind-before}
use Rattle.rank.specs.Keep.{put_at}
use Rattle.std.specs.List.{copy_within}

-- An element put in
pub put-here {ℓ} : {A : Type ℓ} (p : ℕ) (x z : A) (a : List A) → p ≤ length a → get_or (put_at p x a) p z ≡ x
put-here zero x z a l = refl
put-here (suc p) x z [] l = absurd (omega arith)
put-here (suc p) x z (y ∷ ys) l = put-here p x z ys (omega arith)

pub put-past {ℓ} : {A : Type ℓ} (p i : ℕ) (x z : A) (a : List A) → p ≤ i → get_or (put_at p x a) (suc i) z ≡ get_or a i z
put-past zero i x z a l = refl
put-past (suc p) zero x z a l = absurd (omega arith)
put-past (suc p) (suc i) x z [] l = refl
put-past (suc p) (suc i) x z (y ∷ ys) l = put-past p i x z ys (omega arith)

pub put-length {ℓ} : {A : Type ℓ} (p : ℕ) (x : A) (a : List A) → length (put_at p x a) ≡ suc (length a)
put-length zero x a = refl
put-length (suc p) x [] = refl
put-length (suc p) x (y ∷ ys) = ap suc (put-length p x ys)

pub put_front {ℓ} : {A : Type ℓ} (p : ℕ) (x : A) (a : List A) → p ≤ length a → take p (put_at p x a) ++ drop p a ≡ a
put_front zero x a l = refl
put_front (suc p) x [] l = absurd (omega arith)
put_front (suc p) x (y ∷ ys) l = ap {B = List _} (λ t. y ∷ t) (put_front p x ys (omega arith))

pub put-take {ℓ} : {A : Type ℓ} (p n : ℕ) (x : A) (xs : List A) → p ≤ n → n ≤ length xs → put_at p x (take n xs) ≡ take (suc n) (put_at p x xs)
put-take zero n x xs l m = refl
put-take (suc p) zero x xs l m = absurd (omega arith)
put-take (suc p) (suc n) x [] l m = refl
put-take (suc p) (suc n) x (y ∷ ys) l m = ap {B = List _} (λ t. y ∷ t) (put-take p n x ys (omega arith) (omega arith))

-- Those from `p` up to the place before `e` moved one place on, and `x` stored at `p`
opened {ℓ} : {A : Type ℓ} (p m : ℕ) (x : A) (a : List A) → p + m < length a
    → set (take (suc p) a ++ take m (drop p a) ++ drop (suc (p + m)) a) p x ≡ take (suc (p + m)) (put_at p x a) ++ drop (suc (p + m)) a
opened p m x [] l = absurd (omega arith)
opened zero m x (y ∷ ys) l = let z : 0 + m ≡ m = omega arith in rw z
opened (suc p) m x (y ∷ ys) l = let z : suc p + m ≡ suc (p + m) = omega arith in rw z (ap {B = List _} (λ t. y ∷ t) (opened p m x ys (omega arith)))

pub open-whole : (p e x : ℕ) (a : List ℕ) → p < e → e ≤ length a → set (copy_within a p (e - 1) (p + 1)) p x ≡ take e (put_at p x a) ++ drop e a
open-whole p e x a l fits =
    let q : suc p + (e - 1 - p) ≡ e = omega arith in
    let r : suc (p + (e - 1 - p)) ≡ e = omega arith in
    rw (add-one p, q) (rw r at (opened p (e - 1 - p) x a (omega arith)))

-- Rows
pub rows-length : (ds ss : List ℕ) → length ds ≡ length ss → length (postings ds ss) ≡ length ds
rows-length [] ss e = refl
rows-length (d ∷ ds) [] e = absurd (omega arith)
rows-length (d ∷ ds) (s ∷ ss) e = ap suc (rows-length ds ss (omega arith))

pub rows_get_d : (ds ss : List ℕ) (i : ℕ) → i < length ds → i < length ss → get_or (postings ds ss) i (post 0 0) ≡ post (get_or ds i 0) (get_or ss i 0)
rows_get_d [] ss i l m = absurd (omega arith)
rows_get_d (d ∷ ds) [] i l m = absurd (omega arith)
rows_get_d (d ∷ ds) (s ∷ ss) zero l m = refl
rows_get_d (d ∷ ds) (s ∷ ss) (suc i) l m = rows_get_d ds ss i (omega arith) (omega arith)

pub rows_take : (n : ℕ) (ds ss : List ℕ) → take n (postings ds ss) ≡ postings (take n ds) (take n ss)
rows_take zero ds ss = refl
rows_take (suc n) [] ss = refl
rows_take (suc n) (d ∷ ds) [] = refl
rows_take (suc n) (d ∷ ds) (s ∷ ss) = ap {B = List Hit} (λ t. post d s ∷ t) (rows_take n ds ss)

pub rows_put : (p d s : ℕ) (ds ss : List ℕ) → length ds ≡ length ss → postings (put_at p d ds) (put_at p s ss) ≡ put_at p (post d s) (postings ds ss)
rows_put zero d s ds ss e = refl
rows_put (suc p) d s [] [] e = refl
rows_put (suc p) d s [] (t ∷ ss) e = absurd (omega arith)
rows_put (suc p) d s (c ∷ ds) [] e = absurd (omega arith)
rows_put (suc p) d s (c ∷ ds) (t ∷ ss) e = ap {B = List Hit} (λ u. post c t ∷ u) (rows_put p d s ds ss (omega arith))

-- The whole of `keep`
pub keep-rows : (ds ss : List ℕ) (n k p e d s : ℕ) → length ds ≡ length ss → n ≤ length ds → p ≤ n → p < e → n ≤ k → e ≤ length ds
    → ((n < k → e ≡ n + 1) × (k ≤ n → e ≡ n))
    → insert (post d s) (take n (postings ds ss)) ≡ put_at p (post d s) (take n (postings ds ss))
    → take e (postings (take e (put_at p d ds) ++ drop e ds) (take e (put_at p s ss) ++ drop e ss)) ≡ keep k (take n (postings ds ss)) (post d s)
keep-rows ds ss n k p e d s same fits pn pe nk ef ends ins =
    let lds : length (put_at p d ds) ≡ suc (length ds) = put-length p d ds in
    let lss : length (put_at p s ss) ≡ suc (length ss) = put-length p s ss in
    let lr : length (postings ds ss) ≡ length ds = rows-length ds ss same in
    rw (rows_take e (take e (put_at p d ds) ++ drop e ds) (take e (put_at p s ss) ++ drop e ss), take_at (take e (put_at p d ds)) (drop e ds) e (length-take-le e (put_at p d ds) (omega arith)), take_at (take e (put_at p s ss)) (drop e ss) e (length-take-le e (put_at p s ss) (omega arith)))
    (sym (rows_take e (put_at p d ds) (put_at p s ss))
    ∙ ap (take e) (rows_put p d s ds ss same)
    ∙ cut (put_at p (post d s) (postings ds ss))
    ∙ ap (take k) (sym (put-take p n (post d s) (postings ds ss) pn (omega arith)) ∙ sym ins))
  where
    cut : (l : List Hit) → take e l ≡ take k (take (suc n) l)
    cut l = split (ltb n k)
        (λ t. rw (ends.0 (ltb-true _ _ t), add-one n) (sym (take_all k (take (suc n) l) (omega (arith, length-take (suc n) l, ltb-true)))))
        (λ t. let q : n ≡ k = omega (arith, ltb-false) in rw (ends.1 (ltb-false _ _ t), q) (sym (take-take k (suc k) l (omega arith))))

-- a post whose place is past the k kept ones
pub keep_same : (xs : List Hit) (k p : ℕ) (h : Hit) → length xs ≤ k → k ≤ p → p ≤ length xs → insert h xs ≡ put_at p h xs → xs ≡ keep k xs h
keep_same xs k p h a b l e =
    rw (e, take_all p xs (omega arith)) (sym (take_at xs (h ∷ drop p xs) k (omega arith)))

pub open-length {ℓ} : {A : Type ℓ} (p e : ℕ) (x : A) (a : List A) → e ≤ length a → length (take e (put_at p x a) ++ drop e a) ≡ length a
open-length p e x a l = rw length-append (omega (arith, length-take e (put_at p x a), length-drop e a, put-length p x a))

pub open-past {ℓ} : {A : Type ℓ} (p e : ℕ) (x : A) (a : List A) → e ≤ length a → drop e (take e (put_at p x a) ++ drop e a) ≡ drop e a
open-past p e x a l = drop_at (take e (put_at p x a)) (drop e a) e (length-take-le e (put_at p x a) (omega (arith, put-length p x a)))

-- in an ordered list of k hits, one that is behind the last changes nothing
pub keep-behind : (xs : List Hit) (k j : ℕ) (h : Hit) → length xs ≡ k → k ≡ suc j → Ordered xs → ahead h (get_or xs j (post 0 0)) ≡ false → xs ≡ keep k xs h
keep-behind xs k j h l s o e =
    keep_same xs k k h (omega arith) (omega arith) (omega arith)
    (insert-at h (post 0 0) k xs (omega arith) (rw (sym s) at (behind-before h (post 0 0) j xs o (omega arith) e)) (λ m. absurd (omega arith)))

-- a keeper in order stays so
pub keep_ordered : (k : ℕ) (xs : List Hit) (h : Hit) → Ordered xs → Ordered (keep k xs h)
keep_ordered k xs h o = take_ordered k (insert h xs) (insert_ordered h xs o)

-- the kth score of the kept rows stands in the run of scores
pub scores-rows : (n : ℕ) (ds ss : List ℕ) → length ds ≡ length ss → scores (take n (postings ds ss)) ≡ take n ss
scores-rows zero ds ss e = refl
scores-rows (suc n) [] [] e = refl
scores-rows (suc n) [] (s ∷ ss) e = absurd (omega arith)
scores-rows (suc n) (d ∷ ds) [] e = absurd (omega arith)
scores-rows (suc n) (d ∷ ds) (s ∷ ss) e = ap {B = List ℕ} (λ t. s ∷ t) (scores-rows n ds ss (omega arith))

pub docs-rows : (n : ℕ) (ds ss : List ℕ) → length ds ≡ length ss → docs (take n (postings ds ss)) ≡ take n ds
docs-rows zero ds ss e = refl
docs-rows (suc n) [] ss e = refl
docs-rows (suc n) (d ∷ ds) [] e = absurd (omega arith)
docs-rows (suc n) (d ∷ ds) (s ∷ ss) e = ap {B = List ℕ} (λ t. d ∷ t) (docs-rows n ds ss (omega arith))

pub kth-rows : (k n : ℕ) (ds ss : List ℕ) → length ds ≡ length ss → kth k (take n (postings ds ss)) ≡ get_or (take n ss) (k - 1) 0
kth-rows k n ds ss e = ap {B = ℕ} (λ t. get_or t (k - 1) 0) (scores-rows n ds ss e)

pub kth-few : (k n : ℕ) (ss : List ℕ) → n < k → 0 ≡ get_or (take n ss) (k - 1) 0
kth-few k n ss l = sym (get_or-eq_default (take n ss) 0 (rw length-take (omega arith)))

pub kth_full : (k n : ℕ) (ss : List ℕ) → 0 < k → k ≤ n → get_or ss (k - 1) 0 ≡ get_or (take n ss) (k - 1) 0
kth_full k n ss l m = sym (get_or-take n ss (k - 1) 0 (omega arith))
