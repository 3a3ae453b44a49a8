-- The ways out of `push_cut`. Assumes nothing.
use Prim.Native.Nat.{ℕ, zero, suc, ◌+◌, ◌-◌, ◌≤◌, ◌<◌}
use mathlib.Core.Path.{◌≡◌, refl, sym, ap, ◌∙◌}
use mathlib.Core.Bool.{true, false≢true}
use mathlib.Core.List.{List, [], ◌∷◌}
use native.Mathlib.Omega.{arith}
use lib.Dec.{ltb, eqb}
use lib.ListN.{length, get_or, take, set, length-set}
use lib.Seq.{length-take-le, get_or-take}
use borrow.Author.Tests.{ltb-true, ltb-false, lt-ltb, le-ltb, le-leb, lt-leb, eqb-true, eq-eqb}
use Rattle.model.specs.Runs.{add, has, Asc, All, Holds}
use Rattle.prune.specs.Cut.{keeps_cut, add_cut}
use Rattle.model.proofs.Lists.{split, both_ways, or_true, All_map}
use Rattle.model.proofs.Runs.{asc_low, add-last, add-length}
use Rattle.model.proofs.Storing.{front-more, past_more, run_holds, holds-none}

-- A number that a rising run has is not put in again
has_above : (n c : ℕ) (xs : List ℕ) → Asc n xs → has c xs ≡ true → n < c
has_above n c xs a h = split (ltb n c) (λ e. ltb-true _ _ e) (λ e. both_ways (has c xs) h (asc_low n c xs (ltb-false _ _ e) a))

pub add-held : (n c : ℕ) (xs : List ℕ) → Asc n xs → has c xs ≡ true → add c xs ≡ xs
add-held n c [] a h = absurd (false≢true h)
add-held n c (x ∷ xs) a h =
    split (eqb c x)
    (λ e. let q : c ≡ x = eqb-true _ _ e in rw (le-ltb c x (omega arith), le-ltb x c (omega arith)))
    (λ e. let t : has c xs ≡ true = rw e at h in
    let l : x < c = has_above x c xs a.1 t in
    rw (le-ltb c x (omega arith), lt-ltb x c l) (ap {B = List ℕ} (λ t. x ∷ t) (add-held x c xs a.1 t)))

pub has_get_d : (xs : List ℕ) (i : ℕ) → i < length xs → has (get_or xs i 0) xs ≡ true
has_get_d [] i l = absurd (omega arith)
has_get_d (x ∷ xs) zero l = rw (eq-eqb x x refl)
has_get_d (x ∷ xs) (suc i) l = rw (has_get_d xs i (omega arith)) (or_true (eqb (get_or xs i 0) x))

-- the last of a rising run is the greatest
pub asc_top : (n i : ℕ) (xs : List ℕ) → Asc n xs → i + 1 ≡ length xs → All (λ x. x ≤ get_or xs i 0) xs
asc_top n i [] a e = tt
asc_top n zero (x ∷ []) a e = (omega arith, tt)
asc_top n zero (x ∷ y ∷ ys) a e = absurd (omega arith)
asc_top n (suc i) (x ∷ []) a e = absurd (omega arith)
asc_top n (suc i) (x ∷ y ∷ ys) a e =
    let r : All (λ z. z ≤ get_or (y ∷ ys) i 0) (y ∷ ys) = asc_top x i (y ∷ ys) a.1 (omega arith) in
    (omega (arith, r.0, a.1.0), r)

pub add-grows : (c : ℕ) (xs : List ℕ) → length xs ≤ length (add c xs)
add-grows c [] = omega arith
add-grows c (x ∷ xs) =
    split (ltb c x)
    (λ e. rw e (omega arith))
    (λ e. split (ltb x c) (λ f. rw (e, f) (omega (arith, add-grows c xs))) (λ f. rw (e, f) (omega arith)))

-- A cut that is dropped, and one that is kept
module _ (lim c : ℕ) (cs : List ℕ) where
  pub cut_low : c ≤ 1 → add_cut lim cs c ≡ cs
  cut_low l = rw (le-ltb 1 c l)

  pub cut_high : lim < c → add_cut lim cs c ≡ cs
  cut_high l = split (ltb 1 c) (λ e. rw (e, lt-leb c lim l)) (λ e. rw e)

  pub cut-kept : 1 < c → c ≤ lim → add_cut lim cs c ≡ add c cs
  cut-kept l h = rw (lt-ltb 1 c l, le-leb c lim h)

  pub cut-grows : length cs ≤ length (add_cut lim cs c)
  cut-grows = split (keeps_cut lim c) (λ e. rw e (add-grows c cs)) (λ e. rw e (omega arith))

  pub cut-few : length (add_cut lim cs c) ≤ length cs + 1
  cut-few = split (keeps_cut lim c) (λ e. rw e (add-length c cs)) (λ e. rw e (omega arith))

-- The ways out of `push_cut`
module _ (lim c n : ℕ) (out : List ℕ) (room : n < length out) where
  pub push_same : 1 < c → c ≤ lim → 0 < n → Asc 1 (take n out) → get_or out (n - 1) 0 ≡ c → Holds out (add_cut lim (take n out) c) out n
  push_same l h p a e =
      let q : get_or (take n out) (n - 1) 0 ≡ c = get_or-take n out (n - 1) 0 (omega arith) ∙ e in
      let t : has c (take n out) ≡ true = rw q at (has_get_d (take n out) (n - 1) (omega (arith, length-take-le n out (omega arith)))) in
      rw (cut-kept lim c (take n out) l h, add-held 1 c (take n out) a t) (holds-none out n (omega arith))

  pub push_end : 1 < c → c ≤ lim → All (λ x. x < c) (take n out) → Holds out (add_cut lim (take n out) c) (set out n c) (n + 1)
  push_end l h a =
      rw (cut-kept lim c (take n out) l h)
      (run_holds out (add c (take n out)) (set out n c) (n + 1) (omega (arith, length-set out n c))
      (front-more out n c room ∙ sym (add-last c (take n out) a)) (past_more out out n c refl))

pub below_last : (n c : ℕ) (out : List ℕ) → n < length out → 0 < n → Asc 1 (take n out) → All (λ x. x ≤ c) (take n out) → (get_or out (n - 1) 0 ≡ c → ⊥) → All (λ x. x < c) (take n out)
below_last n c out room p a m d =
    let k : length (take n out) ≡ n = length-take-le n out (omega arith) in
    let g : get_or (take n out) (n - 1) 0 ≡ get_or out (n - 1) 0 = get_or-take n out (n - 1) 0 (omega arith) in
    let top : get_or (take n out) (n - 1) 0 ≤ c = at (n - 1) (take n out) (omega arith) m in
    let l : get_or (take n out) (n - 1) 0 < c = less top (λ q. d (sym g ∙ q)) in
    All_map (take n out) (λ x h. omega arith) (asc_top 1 (n - 1) (take n out) a (omega arith))
  where
    at : (i : ℕ) (xs : List ℕ) → i < length xs → All (λ x. x ≤ c) xs → get_or xs i 0 ≤ c
    at i [] l all = absurd (omega arith)
    at zero (x ∷ xs) l all = all.0
    at (suc i) (x ∷ xs) l all = at i xs (omega arith) all.1

    less : {x y : ℕ} → x ≤ y → (x ≡ y → ⊥) → x < y
    less h q = omega arith

pub none_before : (P : ℕ → Type 0) (n : ℕ) (out : List ℕ) → n ≤ 0 → All P (take n out)
none_before P zero out l = tt
none_before P (suc n) out l = absurd (omega arith)
