-- What stands at numbers one after another: its length, what stands at a place, what holds of each. Assumes nothing.
use Prim.Native.Nat.{ℕ, zero, suc, ◌+◌, ◌-◌, ◌≤◌, ◌<◌}
use mathlib.Core.Path.{◌≡◌, refl, ap, ◌∙◌}
use mathlib.Core.List.{List, [], ◌∷◌, ◌++◌, map}
use native.Mathlib.Omega.{arith}
use lib.ListN.{length, get_or, take, drop, length-take, length-drop}
use lib.Seq.{get_or-take, get_or-drop}
use Rattle.model.specs.Runs.{All}
use Rattle.opening.specs.Table.{numbered}

module _ {A : Type 0} where
  pub numbered-length : (at : ℕ → A) (n f : ℕ) → length (numbered at n f) ≡ n
  numbered-length at zero f = refl
  numbered-length at (suc n) f = ap suc (numbered-length at n (suc f))

  pub numbered-all : (P : A → Type 0) (at : ℕ → A) (n f : ℕ) → ((i : ℕ) → f ≤ i → i < f + n → P (at i)) → All P (numbered at n f)
  numbered-all P at zero f h = tt
  numbered-all P at (suc n) f h = (h f (omega arith) (omega arith), numbered-all P at n (suc f) (λ i a b. h i (omega arith) (omega arith)))

  -- one more, at the end
  pub numbered_snoc : (at : ℕ → A) (n f : ℕ) → numbered at (suc n) f ≡ numbered at n f ++ (at (f + n) ∷ [])
  numbered_snoc at zero f = let e : f + 0 ≡ f = omega arith in rw e
  numbered_snoc at (suc n) f =
      let e : suc f + n ≡ f + suc n = omega arith in
      ap {B = List A} (λ t. at f ∷ t) (rw e at (numbered_snoc at n (suc f)))

  -- a list that has the same at each place
  pub numbered_is : (z : A) (at : ℕ → A) (xs : List A) (f : ℕ) → ((i : ℕ) → i < length xs → get_or xs i z ≡ at (f + i)) → xs ≡ numbered at (length xs) f
  numbered_is z at [] f h = refl
  numbered_is z at (x ∷ xs) f h =
      let e : f + 0 ≡ f = omega arith in
      let first : x ≡ at f = rw e at (h 0 (omega arith)) in
      let rest : xs ≡ numbered at (length xs) (suc f) = numbered_is z at xs (suc f) (λ i l. let q : f + suc i ≡ suc f + i = omega arith in rw q at (h (suc i) (omega arith))) in
      cc

  pub numbered-same : (at on : ℕ → A) (n f : ℕ) → ((i : ℕ) → f ≤ i → i < f + n → at i ≡ on i) → numbered at n f ≡ numbered on n f
  numbered-same at on zero f h = refl
  numbered-same at on (suc n) f h =
      let first : at f ≡ on f = h f (omega arith) (omega arith) in
      let rest : numbered at n (suc f) ≡ numbered on n (suc f) = numbered-same at on n (suc f) (λ i a b. h i (omega arith) (omega arith)) in
      cc

pub numbered-map : {A B : Type 0} (g : A → B) (at : ℕ → A) (n f : ℕ) → map g (numbered at n f) ≡ numbered (λ i. g (at i)) n f
numbered-map g at zero f = refl
numbered-map {B = B} g at (suc n) f = ap {B = List B} (λ t. g (at f) ∷ t) (numbered-map g at n (suc f))

-- ---- the first number of a list, from a place on and before an end, that is as wanted

pub record First (P Q : ℕ → Type 0) (xs : List ℕ) (from end r : ℕ) : Type 0 where
  pub on : from ≤ r
  pub upto : r ≤ end
  pub before : (i : ℕ) → from ≤ i → i < r → P (get_or xs i 0)
  pub found : r < end → Q (get_or xs r 0)

module _ (P Q : ℕ → Type 0) (xs : List ℕ) (from end : ℕ) where
  abbrev pub between : List ℕ
  between = take (end - from) (drop from xs)

  in_part : (k : ℕ) → k < end - from → get_or between k 0 ≡ get_or xs (from + k) 0
  in_part k l = get_or-take (end - from) (drop from xs) k 0 l ∙ get_or-drop from xs k 0

  before_part : (n : ℕ) → n ≤ end - from → ((k z : ℕ) → 0 ≤ k → k < n → P (get_or between k z)) → (i : ℕ) → from ≤ i → i < from + n → P (get_or xs i 0)
  before_part n l h i a b =
      let q : from + (i - from) ≡ i = omega arith in
      let m : i - from < end - from = omega arith in
      rw q at (rw (in_part (i - from) m) at (h (i - from) 0 (omega arith) (omega arith)))

  -- it stands at place n of the part
  pub first_found : (n : ℕ) → n < length between → ((z : ℕ) → Q (get_or between n z)) → ((k z : ℕ) → 0 ≤ k → k < n → P (get_or between k z)) → First P Q xs from end (from + n)
  first_found n l q h =
      let w : n < end - from = omega (arith, length-take (end - from) (drop from xs)) in
      record { on = omega arith; upto = omega arith; before = before_part n (omega arith) h; found = λ _. rw (in_part n w) at (q 0) }

  -- it is not in the part
  pub first_end : from ≤ end → end ≤ length xs → ((k z : ℕ) → 0 ≤ k → k < length between → P (get_or between k z)) → First P Q xs from end end
  first_end a b h =
      let w : length between ≡ end - from = omega (arith, length-take (end - from) (drop from xs), length-drop from xs) in
      let e : from + (end - from) ≡ end = omega arith in
      record { on = a; upto = omega arith; before = rw e at (before_part (end - from) (omega arith) (rw w at h)); found = λ l. absurd (omega arith) }
