-- Big-endian numbers: the code's step from n bytes to n + 1, round trips both ways. Assumes nothing.
use Prim.Native.Nat.{ℕ, zero, suc, ◌+◌, ◌*◌, ◌/◌, ◌%◌, ◌^◌, ◌≤◌, ◌<◌}
use native.Mathlib.Nat.{pow-succ', add-zero, zero-add, add-suc, suc-add}
use native.Mathlib.Omega.{arith}
use mathlib.Core.Path.{◌≡◌, refl, sym, ap, ◌∙◌}
use mathlib.Core.List.{List, [], ◌∷◌, ◌++◌, append_assoc, append-nil}
use lib.ListN.{length, get_or, take, drop, length-append, length-drop, take-append-drop}
use lib.Seq.{take-suc, take_at, get_or-drop, length-take-le}
use Rattle.model.specs.Runs.{Bytes}
use Rattle.model.proofs.Lists.{bytes_take}
use Rattle.wire.specs.Number.{value, num, be}

pub value-append : (v : ℕ) (s t : List ℕ) → value v (s ++ t) ≡ value (value v s) t
value-append v [] t = refl
value-append v (b ∷ s) t = value-append (256 * v + b) s t

-- one byte more
pub num-more : (n : ℕ) (s : List ℕ) → n < length s → num (suc n) s ≡ 256 * num n s + get_or s n 0
unfolding num
num-more n s h = rw (take-suc s n 0) (value-append 0 (take n s) (get_or s n 0 ∷ []))

-- the same at a place
pub num-at : (n at : ℕ) (s : List ℕ) → at + n < length s → num (suc n) (drop at s) ≡ 256 * num n (drop at s) + get_or s (at + n) 0
num-at n at s h = num-more n (drop at s) (simp length-drop (omega arith)) ∙ rw (get_or-drop at s n 0)

pub num-none : (s : List ℕ) → num 0 s ≡ 0
unfolding num
num-none s = refl

pub num-below : (n : ℕ) (s : List ℕ) → Bytes s → n ≤ length s → num n s < 256 ^ n
num-below zero s h l = omega (arith, num-none s)
num-below (suc n) s h l = omega (arith, num-more n s l, num-below n s h (omega arith), h n, pow-succ' 256 n)

be-none : (x : List ℕ) → be 0 0 ++ x ≡ x
unfolding be
be-none x = refl

-- ---- what is written is read back

pub be-length : (n v : ℕ) → length (be n v) ≡ n
unfolding be
be-length zero v = refl
be-length (suc n) v = length-append (be n (v / 256)) (v % 256 ∷ []) ∙ rw (be-length n (v / 256)) (omega arith)

value-be : (n v : ℕ) → v < 256 ^ n → value 0 (be n v) ≡ v
unfolding be
value-be zero v h = omega arith
value-be (suc n) v h =
    let small : v / 256 < 256 ^ n = omega (arith, pow-succ' 256 n) in
    value-append 0 (be n (v / 256)) (v % 256 ∷ []) ∙ rw (value-be n (v / 256) small) (omega arith)

pub num-be : (n v : ℕ) (t : List ℕ) → v < 256 ^ n → num n (be n v ++ t) ≡ v
unfolding num
num-be n v t h = rw (take_at (be n v) t n (be-length n v)) (value-be n v h)

-- ---- what is read is what would be written

be-step : (m v b : ℕ) → b < 256 → be (suc m) (256 * v + b) ≡ be m v ++ (b ∷ [])
unfolding be
be-step m v b h =
    let e : (256 * v + b) / 256 ≡ v = omega arith in
    let f : (256 * v + b) % 256 ≡ b = omega arith in
    rw (e, f)

be-value : (m v : ℕ) (s : List ℕ) → Bytes s → be (m + length s) (value v s) ≡ be m v ++ s
be-value m v [] h = rw (add-zero, append-nil)
be-value m v (b ∷ s) h =
    rw (add-suc, ← suc-add)
    (be-value (suc m) (256 * v + b) s (λ i. h (suc i)) ∙ ap (λ (l : List ℕ). l ++ s) (be-step m v b (h 0)) ∙ append_assoc (be m v) (b ∷ []) s)

pub be-num : (n : ℕ) (s : List ℕ) → Bytes s → n ≤ length s → be n (num n s) ++ drop n s ≡ s
unfolding num
be-num n s h l =
    let e : length (take n s) ≡ n = length-take-le n s l in
    let b : Bytes (take n s) = bytes_take n s h in
    let f : be n (value 0 (take n s)) ≡ take n s = ap (λ (k : ℕ). be k (value 0 (take n s))) (sym e ∙ sym (zero-add (length (take n s)))) ∙ be-value 0 0 (take n s) b ∙ be-none (take n s) in
    rw f (take-append-drop n s)

-- ---- numbers at a place, as the code puts them together

pub num_1 : (at : ℕ) (s : List ℕ) → at + 1 ≤ length s → num 1 (drop at s) ≡ get_or s at 0
num_1 at s h =
    let e = num-at 0 at s (omega arith) in
    let z : num 0 (drop at s) ≡ 0 = num-none (drop at s) in
    let g : get_or s (at + 0) 0 ≡ get_or s at 0 = rw add-zero in
    omega arith

pub num_4 : (at : ℕ) (s : List ℕ) → at + 4 ≤ length s → num 4 (drop at s) ≡ 65536 * num 2 (drop at s) + num 2 (drop (at + 2) s)
num_4 at s h =
    let g : get_or s (at + 2 + 1) 0 ≡ get_or s (at + 3) 0 = ap (λ (k : ℕ). get_or s k 0) (omega arith) in
    omega (arith, num-at 3 at s (omega arith), num-at 2 at s (omega arith), num-at 1 (at + 2) s (omega arith), num_1 (at + 2) s (omega arith))

-- ---- bytes, the highest first, as the code stores them

pub be-one : (b : ℕ) → b < 256 → be 1 b ≡ b ∷ []
unfolding be
be-one b h = let e : b % 256 ≡ b = omega arith in rw e

-- one byte more
pub be-more : (n v : ℕ) → be n (v / 256) ++ be 1 (v % 256) ≡ be (suc n) v
unfolding be
be-more n v = let e : v % 256 % 256 ≡ v % 256 = omega arith in rw e

pub be_2 : (x : ℕ) → x / 256 % 256 ∷ x % 256 ∷ [] ≡ be 2 x
unfolding be
be_2 x = refl

pub be_3 : (x : ℕ) → x / 65536 % 256 ∷ x / 256 % 256 ∷ x % 256 ∷ [] ≡ be 3 x
unfolding be
be_3 x =
    let e : x / 65536 ≡ x / 256 / 256 = omega arith in
    rw e

pub be_4 : (x : ℕ) → x / 16777216 % 256 ∷ x / 65536 % 256 ∷ x / 256 % 256 ∷ x % 256 ∷ [] ≡ be 4 x
unfolding be
be_4 x =
    let e : x / 65536 ≡ x / 256 / 256 = omega arith in
    let f : x / 16777216 ≡ x / 256 / 256 / 256 = omega arith in
    rw (e, f)
