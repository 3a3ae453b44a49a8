-- The gap number and the score: by the tests that the code makes, and round trips. Assumes nothing.
use Prim.Native.Nat.{ℕ, zero, suc, ◌+◌, ◌*◌, ◌-◌, ◌/◌, ◌%◌, ◌^◌, ◌≤◌, ◌<◌}
use native.Mathlib.Omega.{arith}
use native.Mathlib.Numerals.{sub-one}
use native.Mathlib.Nat.{add-zero, mul-add, mul_assoc, pow-succ', pow-le-pow_right, lt_of_lt_of_le, one-le-pow}
use mathlib.Core.Path.{◌≡◌, refl, sym, ap, ap₂}
use mathlib.Core.List.{List, [], ◌∷◌, ◌++◌}
use mathlib.Core.Bool.{cond, ◌&&◌}
use borrow.Author.Tests.{ltb-true, ltb-false, leb-true, lt-ltb, le-ltb, le-leb, lt-leb, ne_eqb, eqb-false}
use lib.ListN.{length, get_or, drop, length-drop, length-append}
use lib.Dec.{ltb, leb, eqb}
use Rattle.model.specs.Runs.{Bytes}
use Rattle.model.proofs.Lists.{split, and-true, and-false, rest_cons, rest-none}
use Rattle.wire.specs.Read.{Read, got, stopped}
use Rattle.wire.specs.Number.{num, be}
use Rattle.wire.specs.Gap.{more, gap, gap_in, gap_bytes, score, read_past, gap_at, score_at}
use Rattle.std.specs.Prelude.{Result}
use Rattle.std.specs.Prelude.{Ok, Err}
use Rattle.wire.proofs.Numbers.{num-be, be-num, be-length, num-below}

-- ---- the gap number at a place

pub gap-none : (s : List ℕ) (at : ℕ) → gap_at 0 s at ≡ Err at
unfolding gap_at gap
gap-none s at = rw add-zero

pub gap-end : (n : ℕ) (s : List ℕ) (at : ℕ) → length s ≤ at → gap_at n s at ≡ Err at
unfolding gap_at gap
gap-end zero s at h = rw add-zero
gap-end (suc n) s at h = rw (rest-none s at h, add-zero)

pub gap-last : (n : ℕ) (s : List ℕ) (at : ℕ) → (n ≡ 0 → ⊥) → at < length s → get_or s at 0 < 128 → gap_at n s at ≡ Ok (get_or s at 0, at + 1)
unfolding gap_at gap
gap-last zero s at z h l = absurd (z refl)
gap-last (suc n) s at z h l = rw (rest_cons s at h, lt-ltb (get_or s at 0) 128 l)

-- `more`, where the number at `at` goes on with what was read past its first byte
abbrev pub more_at : (at b : ℕ) → Result (ℕ × ℕ) ℕ → Result (ℕ × ℕ) ℕ
more_at at b (Ok (v, p)) = cond (eqb v 0) (Err at) (Ok (b % 128 + 128 * v, p))
more_at at b (Err p) = Err at

past_more : (b at : ℕ) (r : Read ℕ) → read_past at (more b r) ≡ more_at at b (read_past (at + 1) r)
unfolding more
past_more b at (stopped k) = rw add-zero
past_more b at (got v k) =
    split (eqb v 0) (λ e. rw (e, add-zero)) (λ e. rw e (ap (λ (p : ℕ). Ok (b % 128 + 128 * v, p)) (omega arith)))

pub gap_more : (n : ℕ) (s : List ℕ) (at : ℕ) → (n ≡ 0 → ⊥) → at < length s → 128 ≤ get_or s at 0 → gap_at n s at ≡ more_at at (get_or s at 0) (gap_at (n - 1) s (at + 1))
unfolding gap_at gap
gap_more zero s at z h l = absurd (z refl)
gap_more (suc n) s at z h l =
    rw (sub-one, rest_cons s at h, le-ltb (get_or s at 0) 128 l) (past_more (get_or s at 0) at (gap n (drop (at + 1) s)))

-- ---- the same, byte after byte

-- the number at `at`, where its bytes before `i` are worth v, and a one of what is read at `i` is worth `unit`
abbrev pub whole_at : (at i v unit : ℕ) → Result (ℕ × ℕ) ℕ → Result (ℕ × ℕ) ℕ
whole_at at i v unit (Ok (w, p)) = cond (eqb w 0 && ltb at i) (Err at) (Ok (v + unit * w, p))
whole_at at i v unit (Err p) = Err at

-- what does not read as a number is at fault where it begins
abbrev AtFront : Read ℕ → Type 0
AtFront (got v k) = Unit {0}
AtFront (stopped k) = k ≡ 0

at-front-more : (b : ℕ) (r : Read ℕ) → AtFront (more b r)
unfolding more
at-front-more b (got v k) = split (eqb v 0) (λ e. rw e refl) (λ e. rw e tt)
at-front-more b (stopped k) = refl

at_front : (n : ℕ) (s : List ℕ) → AtFront (gap n s)
unfolding gap
at_front zero s = refl
at_front (suc n) [] = refl
at_front (suc n) (b ∷ s) = split (ltb b 128) (λ e. rw e tt) (λ e. rw e (at-front-more b (gap n s)))

pub whole-start : (n : ℕ) (s : List ℕ) (at : ℕ) → gap_at n s at ≡ whole_at at at 0 1 (gap_at n s at)
unfolding gap_at
whole-start n s at = go (gap n (drop at s)) (at_front n (drop at s))
  where
    go : (r : Read ℕ) → AtFront r → read_past at r ≡ whole_at at at 0 1 (read_past at r)
    go (got v k) f = rw (le-ltb at at (omega arith), and-false) (ap (λ (w : ℕ). Ok (w, at + k)) (omega arith))
    go (stopped k) f = rw (f, add-zero)

-- a byte of seven low bits counts `unit` times, and what is past it 128 times as much
whole_byte : (at i v unit b : ℕ) (r : Result (ℕ × ℕ) ℕ) → at ≤ i → whole_at at i v unit (more_at i b r) ≡ whole_at at (i + 1) (v + unit * (b % 128)) (unit * 128) r
whole_byte at i v unit b (Err p) h = refl
whole_byte at i v unit b (Ok (w, p)) h =
    split (eqb w 0)
    (λ e. rw (e, lt-ltb at (i + 1) (omega arith)))
    (λ e.
    let z : (w ≡ 0 → ⊥) = eqb-false w 0 e in
    rw (e, ne_eqb (b % 128 + 128 * w) 0 (λ f. z (omega arith)))
    (ap (λ (x : ℕ). Ok (x, p)) (omega (arith, mul-add unit (b % 128) (128 * w), mul_assoc unit 128 w))))

pub whole-more : (at i v unit n : ℕ) (s : List ℕ) → at ≤ i → 0 < n → i < length s → 128 ≤ get_or s i 0
    → whole_at at i v unit (gap_at n s i) ≡ whole_at at (i + 1) (v + unit * (get_or s i 0 % 128)) (unit * 128) (gap_at (n - 1) s (i + 1))
whole-more at i v unit n s h p l b =
    rw (gap_more n s i (λ e. omega arith) l b) (whole_byte at i v unit (get_or s i 0) (gap_at (n - 1) s (i + 1)) h)

-- a number of n bytes is below 128 to the n
abbrev Small : ℕ → Read ℕ → Type 0
Small p (got v k) = v < p
Small p (stopped k) = Unit {0}

small-more : (b p : ℕ) (r : Read ℕ) → Small p r → Small (128 * p) (more b r)
unfolding more
small-more b p (stopped k) h = tt
small-more b p (got v k) h = split (eqb v 0) (λ e. rw e tt) (λ e. rw e (omega arith))

small : (n : ℕ) (s : List ℕ) → Small (128 ^ n) (gap n s)
unfolding gap
small zero s = tt
small (suc n) [] = tt
small (suc n) (b ∷ s) =
    let ih = small-more b (128 ^ n) (gap n s) (small n s) in
    rw (pow-succ' 128 n)
    (split (ltb b 128) (λ e. rw e (omega (arith, ltb-true b 128 e, one-le-pow n 128 (omega arith)))) (λ e. rw e ih))

-- a number of at most m bytes is below 128 to the m
pub gap_below : (n m : ℕ) (s : List ℕ) (at v k : ℕ) → n ≤ m → gap_at n s at ≡ Ok (v, k) → v < 128 ^ m
unfolding gap_at
gap_below n m s at v k le e =
    lt_of_lt_of_le (rw e at (past (gap n (drop at s)) (small n (drop at s)))) (pow-le-pow_right (omega arith) le)
  where
    At : Result (ℕ × ℕ) ℕ → Type 0
    At (Ok (v, k)) = v < 128 ^ n
    At (Err p) = Unit {0}

    past : (r : Read ℕ) → Small (128 ^ n) r → At (read_past at r)
    past (got v k) h = h
    past (stopped k) h = tt

-- ---- the score at a place

module _ (s : List ℕ) (at : ℕ) where
  pub score-short : length s < at + 2 → score_at s at ≡ Err at
  unfolding score_at score
  score-short h = rw (length-drop at s, lt-leb 2 (length s - at) (omega arith), add-zero)

  pub score-zero : at + 2 ≤ length s → num 2 (drop at s) ≡ 0 → score_at s at ≡ Err at
  unfolding score_at score
  score-zero h e = rw (length-drop at s, le-leb 2 (length s - at) (omega arith), le-ltb 0 (num 2 (drop at s)) (omega arith), add-zero)

  pub score-there : at + 2 ≤ length s → (num 2 (drop at s) ≡ 0 → ⊥) → score_at s at ≡ Ok (num 2 (drop at s), at + 2)
  unfolding score_at score
  score-there h z = rw (length-drop at s, le-leb 2 (length s - at) (omega arith), lt-ltb 0 (num 2 (drop at s)) (omega arith))

-- ---- from what the code found back to what was read

past-got : (at : ℕ) (r : Read ℕ) (v p : ℕ) → read_past at r ≡ Ok (v, p) → (k : ℕ) × (r ≡ got v k) × (p ≡ at + k)
past-got at (got w k) v p q =
    let e : (w, at + k) ≡ (v, p) = cc in
    let a : w ≡ v = ap (λ (x : ℕ × ℕ). x.0) e in
    let b : at + k ≡ p = ap (λ (x : ℕ × ℕ). x.1) e in
    (k, rw a, sym b)
past-got at (stopped k) v p q = let z : ◌≡◌ {A = ℕ} 0 1 = cc in absurd (omega arith)

past-not : (at : ℕ) (r : Read ℕ) (p : ℕ) → read_past at r ≡ Err p → (k : ℕ) × (r ≡ stopped k) × (p ≡ at + k)
past-not at (got w k) p q = let z : ◌≡◌ {A = ℕ} 0 1 = cc in absurd (omega arith)
past-not at (stopped k) p q = let b : at + k ≡ p = cc in (k, refl, sym b)

module _ (n : ℕ) (s : List ℕ) (at : ℕ) where
  pub gap-got : (v p : ℕ) → gap_at n s at ≡ Ok (v, p) → (k : ℕ) × (gap n (drop at s) ≡ got v k) × (p ≡ at + k)
  unfolding gap_at
  gap-got v p e = past-got at (gap n (drop at s)) v p e

  pub gap-not : (p : ℕ) → gap_at n s at ≡ Err p → (k : ℕ) × (gap n (drop at s) ≡ stopped k) × (p ≡ at + k)
  unfolding gap_at
  gap-not p e = past-not at (gap n (drop at s)) p e

module _ (s : List ℕ) (at : ℕ) where
  pub score-got : (v p : ℕ) → score_at s at ≡ Ok (v, p) → (k : ℕ) × (score (drop at s) ≡ got v k) × (p ≡ at + k)
  unfolding score_at
  score-got v p e = past-got at (score (drop at s)) v p e

  pub score-not : (p : ℕ) → score_at s at ≡ Err p → (k : ℕ) × (score (drop at s) ≡ stopped k) × (p ≡ at + k)
  unfolding score_at
  score-not p e = past-not at (score (drop at s)) p e

-- ---- the bytes of a gap number

pub in_last : (n v : ℕ) → v < 128 → gap_in (suc n) v ≡ v ∷ []
unfolding gap_in
in_last n v h = rw (lt-ltb v 128 h)

pub in_step : (n v : ℕ) → 128 ≤ v → gap_in (suc n) v ≡ (128 + v % 128) ∷ gap_in n (v / 128)
unfolding gap_in
in_step n v h = rw (le-ltb v 128 h)

pub in_some : (n v : ℕ) → 0 < length (gap_in (suc n) v)
in_some n v =
    split (ltb v 128)
    (λ e. rw (in_last n v (ltb-true v 128 e)) (omega arith))
    (λ e. rw (in_step n v (ltb-false v 128 e)) (omega arith))

pub in_length : (n v : ℕ) → length (gap_in n v) ≤ n
unfolding gap_in
in_length zero v = omega arith
in_length (suc n) v = split (ltb v 128) (λ e. rw e (omega arith)) (λ e. rw e (omega (arith, in_length n (v / 128))))

-- ---- what is written is read back

more_round : (v k : ℕ) → 128 ≤ v → more (128 + v % 128) (got (v / 128) k) ≡ got v (suc k)
unfolding more
more_round v k h =
    rw (ne_eqb (v / 128) 0 (λ e. omega arith)) (ap₂ (λ (x y : ℕ). got x y) (omega arith) (omega arith))

front-last : (n v : ℕ) (t : List ℕ) → v < 128 → gap (suc n) (v ∷ t) ≡ got v 1
unfolding gap
front-last n v t h = rw (lt-ltb v 128 h)

front-more : (n v k : ℕ) (t : List ℕ) → 128 ≤ v → gap n t ≡ got (v / 128) k → gap (suc n) ((128 + v % 128) ∷ t) ≡ got v (suc k)
unfolding gap
front-more n v k t h e = rw (le-ltb (128 + v % 128) 128 (omega arith), e) (more_round v k h)

one_byte : (n v : ℕ) → 128 ≤ v → v < 128 ^ suc n → 0 < n
one_byte zero v b h = absurd (omega arith)
one_byte (suc n) v b h = omega arith

-- at most n bytes are read, and at most m written: a number below 128 to the n fits both
in_round : (n m v : ℕ) (t : List ℕ) → v < 128 ^ n → n ≤ m → 0 < n → gap n (gap_in m v ++ t) ≡ got v (length (gap_in m v))
in_round zero m v t h l p = absurd (omega arith)
in_round (suc n) zero v t h l p = absurd (omega arith)
in_round (suc n) (suc m) v t h l p =
    split (ltb v 128)
    (λ e. rw (in_last m v (ltb-true v 128 e)) (front-last n v t (ltb-true v 128 e)))
    (λ e.
    let big : 128 ≤ v = ltb-false v 128 e in
    let fits : v / 128 < 128 ^ n = omega (arith, pow-succ' 128 n) in
    rw (in_step m v big)
    (front-more n v (length (gap_in m (v / 128))) (gap_in m (v / 128) ++ t) big (in_round n m (v / 128) t fits (omega arith) (one_byte n v big h))))

pub gap_round : (n v : ℕ) (t : List ℕ) → v < 128 ^ n → n ≤ 5 → 0 < n → gap n (gap_bytes v ++ t) ≡ got v (length (gap_bytes v))
gap_round n v t h l p = in_round n 5 v t h l p

pub score_round : (w : ℕ) (t : List ℕ) → 0 < w → w < 65536 → score (be 2 w ++ t) ≡ got w 2
unfolding score
score_round w t p h =
    let room : 2 ≤ length (be 2 w ++ t) = omega (arith, length-append (be 2 w) t, be-length 2 w) in
    rw (le-leb 2 (length (be 2 w ++ t)) room, num-be 2 w t h, lt-ltb 0 w p)

-- ---- what is read is what would be written

-- what reading s says: the number's own bytes stand at its front
abbrev Own : (m p : ℕ) → List ℕ → Read ℕ → Type 0
Own m p s (got v k) = (s ≡ gap_in m v ++ drop k s) × (v < p) × (k ≡ length (gap_in m v))
Own m p s (stopped k) = Unit {0}

own-more : (m p b : ℕ) (s : List ℕ) (r : Read ℕ) → 128 ≤ b → b < 256 → Own m p s r → Own (suc m) (128 * p) (b ∷ s) (more b r)
unfolding more
own-more m p b s (stopped k) l h o = tt
own-more m p b s (got v k) l h o =
    split (eqb v 0)
    (λ e. rw e tt)
    (λ e.
    let z : (v ≡ 0 → ⊥) = eqb-false v 0 e in
    let n = b % 128 + 128 * v in
    let big : 128 ≤ n = omega arith in
    let low : 128 + n % 128 ≡ b = omega arith in
    let high : n / 128 ≡ v = omega arith in
    let k1 : 1 + k ≡ suc k = omega arith in
    rw (e, in_step m n big, low, high, k1)
    (ap {B = List ℕ} (λ t. b ∷ t) o.0, omega (arith, o.1), ap suc o.2))

own : (n m : ℕ) (s : List ℕ) → Bytes s → n ≤ m → Own m (128 ^ n) s (gap n s)
unfolding gap
own zero m s h l = tt
own (suc n) m [] h l = tt
own (suc n) zero (b ∷ s) h l = absurd (omega arith)
own (suc n) (suc m) (b ∷ s) h l =
    let ih = own n m s (λ i. h (suc i)) (omega arith) in
    rw (pow-succ' 128 n)
    (split (ltb b 128)
    (λ e. rw (e, in_last m b (ltb-true b 128 e)) (refl, omega (arith, ltb-true b 128 e, one-le-pow n 128 (omega arith)), refl))
    (λ e. rw e (own-more m (128 ^ n) b s (gap n s) (ltb-false b 128 e) (h 0) ih)))

pub gap-only : (n : ℕ) (s : List ℕ) (v k : ℕ) → Bytes s → n ≤ 5 → gap n s ≡ got v k
    → (s ≡ gap_bytes v ++ drop k s) × (v < 128 ^ n) × (k ≡ length (gap_bytes v))
gap-only n s v k h l e = rw e at (own n 5 s h l)

abbrev Scored : List ℕ → Read ℕ → Type 0
Scored s (got w k) = (s ≡ be 2 w ++ drop 2 s) × (0 < w) × (w < 65536) × (k ≡ 2)
Scored s (stopped k) = Unit {0}

scored : (s : List ℕ) → Bytes s → Scored s (score s)
unfolding score
scored s h =
    split (leb 2 (length s) && ltb 0 (num 2 s))
    (λ e.
    let t = and-true (leb 2 (length s)) _ e in
    let l : 2 ≤ length s = leb-true _ _ t.0 in
    rw e (sym (be-num 2 s h l), ltb-true _ _ t.1, num-below 2 s h l, refl))
    (λ e. rw e tt)

pub score-only : (s : List ℕ) (w k : ℕ) → Bytes s → score s ≡ got w k → (s ≡ be 2 w ++ drop 2 s) × (0 < w) × (w < 65536) × (k ≡ 2)
score-only s w k h e = rw e at (scored s h)
