-- Facts on tests and on lists. Assumes nothing.
use Prim.Native.Nat.{ℕ, zero, suc, ◌+◌, ◌≤◌, ◌<◌}
use mathlib.Core.Path.{◌≡◌, refl, sym, ap, subst⁻¹, ◌∙◌}
use mathlib.Core.Bool.{Bool, true, false, false≢true, ◌||◌, ◌&&◌}
use mathlib.Core.List.{List, [], ◌∷◌, ◌++◌, map}
use native.Mathlib.Omega.{arith}
use native.Mathlib.Numerals.{add-one}
use lib.ListN.{length, take, drop, get_or, set, drop_of_length-le}
use lib.Dec.{eqb}
use lib.Seq.{drop-cons, get_or-drop}
use borrow.Author.Tests.{eqb-true, eqb-false}
use Rattle.model.specs.Runs.{All, Bytes}

-- A test's two cases, each with its equation
pub split {ℓ} : {C : Type ℓ} (t : Bool) → (t ≡ true → C) → (t ≡ false → C) → C
split true f g = f refl
split false f g = g refl

pub both_ways {ℓ} : {C : Type ℓ} (t : Bool) → t ≡ true → t ≡ false → C
both_ways t p q = absurd (false≢true (sym q ∙ p))

pub and-true : (a b : Bool) → (a && b) ≡ true → (a ≡ true) × (b ≡ true)
and-true true b e = (refl, e)
and-true false b e = absurd (false≢true e)

pub or_true : (a : Bool) → (a || true) ≡ true
or_true true = refl
or_true false = refl

pub or_false : (a : Bool) → (a || false) ≡ a
or_false true = refl
or_false false = refl

pub or_swap : (a b c : Bool) → (a || (b || c)) ≡ (b || (a || c))
or_swap true true c = refl
or_swap true false c = refl
or_swap false b c = refl

pub or_twice : (a b : Bool) → (a || b) ≡ (a || (a || b))
or_twice true b = refl
or_twice false b = refl

pub or_assoc : (a b c : Bool) → ((a || b) || c) ≡ (a || (b || c))
or_assoc true b c = refl
or_assoc false b c = refl

pub and-false : (a : Bool) → (a && false) ≡ false
and-false true = refl
and-false false = refl

pub and-turn : (a b c : Bool) → (a && (b && c)) ≡ ((b && a) && c)
and-turn true true c = refl
and-turn true false c = refl
and-turn false true c = refl
and-turn false false c = refl

pub and_swap : (a b c : Bool) → (a && (b && c)) ≡ (b && (a && c))
and_swap true true c = refl
and_swap true false c = refl
and_swap false true c = refl
and_swap false false c = refl

pub or_comm : (a b : Bool) → (a || b) ≡ (b || a)
or_comm true b = sym (or_true b)
or_comm false b = sym (or_false b)

-- functions that agree everywhere have the same images
pub map_same : {A B : Type 0} (f g : A → B) (xs : List A) → ((x : A) → f x ≡ g x) → map f xs ≡ map g xs
map_same f g [] h = refl
map_same f g (x ∷ xs) h = cc (h x, map_same f g xs h)

module _ {A : Type 0} where
  -- what holds of each element holds of the one at a place
  pub All_at : (P : A → Type 0) (xs : List A) (none : A) (i : ℕ) → All P xs → i < length xs → P (get_or xs i none)
  All_at P [] none i all l = absurd (omega arith)
  All_at P (x ∷ xs) none zero all l = all.0
  All_at P (x ∷ xs) none (suc i) all l = All_at P xs none i all.1 (omega arith)

  pub All_map : {P Q : A → Type 0} (xs : List A) → ((x : A) → P x → Q x) → All P xs → All Q xs
  All_map [] f all = tt
  All_map (x ∷ xs) f all = (f x all.0, All_map xs f all.1)

  pub All_both : {P Q R : A → Type 0} (xs : List A) → ((x : A) → P x → Q x → R x) → All P xs → All Q xs → All R xs
  All_both [] f p q = tt
  All_both (x ∷ xs) f p q = (f x p.0 q.0, All_both xs f p.1 q.1)

  pub All_front : (P : A → Type 0) (xs ys : List A) → All P (xs ++ ys) → All P xs
  All_front P [] ys all = tt
  All_front P (x ∷ xs) ys all = (all.0, All_front P xs ys all.1)

  pub All_rest : (P : A → Type 0) (xs ys : List A) → All P (xs ++ ys) → All P ys
  All_rest P [] ys all = all
  All_rest P (x ∷ xs) ys all = All_rest P xs ys all.1

  pub All_append : (P : A → Type 0) (xs ys : List A) → All P xs → All P ys → All P (xs ++ ys)
  All_append P [] ys p q = q
  All_append P (x ∷ xs) ys p q = (p.0, All_append P xs ys p.1 q)

  pub All_take : (P : A → Type 0) (k : ℕ) (xs : List A) → All P xs → All P (take k xs)
  All_take P zero xs all = tt
  All_take P (suc k) [] all = tt
  All_take P (suc k) (x ∷ xs) all = (all.0, All_take P k xs all.1)

  pub map-take : (f : A → ℕ) (k : ℕ) (xs : List A) → map f (take k xs) ≡ take k (map f xs)
  map-take f zero xs = refl
  map-take f (suc k) [] = refl
  map-take f (suc k) (x ∷ xs) = ap {B = List ℕ} (λ l. f x ∷ l) (map-take f k xs)

  pub map-length : (f : A → ℕ) (xs : List A) → length (map f xs) ≡ length xs
  map-length f [] = refl
  map-length f (x ∷ xs) = ap suc (map-length f xs)

  -- what bounds each number bounds the number at any place, where 0 stands past the end
  pub get_d_bound : (f : A → ℕ) (m i : ℕ) (xs : List A) → All (λ x. f x ≤ m) xs → get_or (map f xs) i 0 ≤ m
  get_d_bound f m i [] all = omega arith
  get_d_bound f m zero (x ∷ xs) all = all.0
  get_d_bound f m (suc i) (x ∷ xs) all = get_d_bound f m i xs all.1

-- what holds of each number passed, and of the next
pub up_to_next : (P : ℕ → Type 0) (from i : ℕ) → ((j : ℕ) → from ≤ j → j < i → P j) → P i → (j : ℕ) → from ≤ j → j < i + 1 → P j
up_to_next P from i h p j a b =
    split (eqb j i)
    (λ e. let q : j ≡ i = eqb-true j i e in subst⁻¹ P q p)
    (λ e. let w : (j ≡ i → ⊥) = eqb-false j i e in h j a (omega arith))

-- what holds of each image
pub All_image : {A B : Type 0} (f : A → B) (P : B → Type 0) (xs : List A) → All (λ x. P (f x)) xs → All P (map f xs)
All_image f P [] all = tt
All_image f P (x ∷ xs) all = (all.0, All_image f P xs all.1)

-- ---- a run from a place on, in the code's `at + 1`

pub rest_cons : (s : List ℕ) (at : ℕ) → at < length s → drop at s ≡ get_or s at 0 ∷ drop (at + 1) s
rest_cons s at h = rw (add-one, drop-cons s at 0)

pub rest-none : (s : List ℕ) (at : ℕ) → length s ≤ at → drop at s ≡ []
rest-none s at h = drop_of_length-le s h

pub bytes_drop : (k : ℕ) (l : List ℕ) → Bytes l → Bytes (drop k l)
bytes_drop k l h i = rw (get_or-drop k l i 0) (h (k + i))

pub bytes_take : (k : ℕ) (l : List ℕ) → Bytes l → Bytes (take k l)
bytes_take zero l h i = omega arith
bytes_take (suc k) [] h i = omega arith
bytes_take (suc k) (b ∷ l) h zero = h 0
bytes_take (suc k) (b ∷ l) h (suc i) = bytes_take k l (λ j. h (suc j)) i

-- A map done in place, from the front
module _ {A : Type 0} (z : A) (f : A → A) where
  turn' : (xs : List A) (i : ℕ) → i < length xs → set (map f (take i xs) ++ drop i xs) i (f (get_or xs i z)) ≡ map f (take (suc i) xs) ++ drop (suc i) xs
  turn' [] i l = absurd (omega arith)
  turn' (x ∷ xs) zero l = refl
  turn' (x ∷ xs) (suc i) l = ap {B = List A} (λ t. f x ∷ t) (turn' xs i (omega arith))

  pub map-turn : (xs : List A) (i : ℕ) → i < length xs → set (map f (take i xs) ++ drop i xs) i (f (get_or xs i z)) ≡ map f (take (i + 1) xs) ++ drop (i + 1) xs
  map-turn xs i l = rw (add-one i) (turn' xs i l)

  stay' : (xs : List A) (i : ℕ) → i < length xs → f (get_or xs i z) ≡ get_or xs i z → map f (take i xs) ++ drop i xs ≡ map f (take (suc i) xs) ++ drop (suc i) xs
  stay' [] i l e = absurd (omega arith)
  stay' (x ∷ xs) zero l e = ap {B = List A} (λ t. t ∷ xs) (sym e)
  stay' (x ∷ xs) (suc i) l e = ap {B = List A} (λ t. f x ∷ t) (stay' xs i (omega arith) e)

  pub map_stay : (xs : List A) (i : ℕ) → i < length xs → f (get_or xs i z) ≡ get_or xs i z → map f (take i xs) ++ drop i xs ≡ map f (take (i + 1) xs) ++ drop (i + 1) xs
  map_stay xs i l e = rw (add-one i) (stay' xs i l e)

  pub map-here : (xs : List A) (i : ℕ) → i < length xs → get_or (map f (take i xs) ++ drop i xs) i z ≡ get_or xs i z
  map-here [] i l = absurd (omega arith)
  map-here (x ∷ xs) zero l = refl
  map-here (x ∷ xs) (suc i) l = map-here xs i (omega arith)

  pub map-past : (xs : List A) (i : ℕ) → length xs ≤ i → map f (take i xs) ++ drop i xs ≡ map f xs
  map-past [] zero l = refl
  map-past [] (suc i) l = refl
  map-past (x ∷ xs) zero l = absurd (omega arith)
  map-past (x ∷ xs) (suc i) l = ap {B = List A} (λ t. f x ∷ t) (map-past xs i (omega arith))

-- a store, and what is read, through a map
pub set-map : {A B : Type 0} (g : A → B) (xs : List A) (i : ℕ) (x : A) → map g (set xs i x) ≡ set (map g xs) i (g x)
set-map g [] i x = refl
set-map g (y ∷ xs) zero x = refl
set-map {B = B} g (y ∷ xs) (suc i) x = ap {B = List B} (λ t. g y ∷ t) (set-map g xs i x)

pub get_d_map : {A B : Type 0} (g : A → B) (z : A) (xs : List A) (i : ℕ) → get_or (map g xs) i (g z) ≡ g (get_or xs i z)
get_d_map g z [] i = refl
get_d_map g z (y ∷ xs) zero = refl
get_d_map g z (y ∷ xs) (suc i) = get_d_map g z xs i
