-- Decimal numbers: by the tests that the code makes, and how long they are. Assumes nothing.
use Prim.Native.Nat.{ℕ, zero, suc, ◌+◌, ◌-◌, ◌*◌, ◌/◌, ◌%◌, ◌^◌, ◌≤◌, ◌<◌}
use native.Mathlib.Omega.{arith}
use mathlib.Core.Path.{◌≡◌, refl, sym, ap, ◌∙◌}
use mathlib.Core.List.{List, [], ◌∷◌, ◌++◌}
use mathlib.Core.Bool.{cond}
use borrow.Author.Tests.{ltb-false, lt-ltb, le-ltb}
use lib.Dec.{ltb}
use lib.ListN.{length, drop, get_or, length-append, get_or-append}
use Rattle.model.specs.Runs.{All}
use Rattle.model.proofs.Lists.{split, rest_cons, rest-none}
use Rattle.wire.specs.Number.{be}
use Rattle.wire.proofs.Numbers.{be-one}
use Rattle.lines.specs.Text.{codes, digits, decimal, numbers}

-- more room than is needed says nothing
same : (a b n : ℕ) → n < 10 ^ suc a → n < 10 ^ suc b → digits (suc a) n ≡ digits (suc b) n
unfolding digits
same zero b n h k = rw (lt-ltb n 10 (omega arith))
same (suc a) zero n h k = rw (lt-ltb n 10 (omega arith))
same (suc a) (suc b) n h k =
    ap (λ (t : List ℕ). cond (ltb n 10) ((48 + n) ∷ []) (t ++ ((48 + n % 10) ∷ []))) (same a b (n / 10) (omega arith) (omega arith))

last : (m n : ℕ) → n < 10 → digits (suc m) n ≡ (48 + n) ∷ []
unfolding digits
last m n h = rw (lt-ltb n 10 h)

more : (m n : ℕ) → 10 ≤ n → n < 10 ^ suc (suc m) → digits (suc (suc m)) n ≡ digits (suc (suc m)) (n / 10) ++ ((48 + n % 10) ∷ [])
unfolding digits
more m n h k =
    rw (le-ltb n 10 h)
    (ap (λ (t : List ℕ). t ++ ((48 + n % 10) ∷ [])) (same m (suc m) (n / 10) (omega arith) (omega arith)))

pub decimal-last : (n : ℕ) → n < 10 → decimal n ≡ (48 + n) ∷ []
unfolding decimal
decimal-last n h = last 19 n h

-- the last digit, as it is stored
pub digit : (n : ℕ) → n < 10 → be 1 (48 + n) ≡ decimal n
digit n h = be-one (48 + n) (omega arith) ∙ sym (decimal-last n h)

pub decimal-more : (n : ℕ) → 10 ≤ n → n < 10 ^ 20 → decimal n ≡ decimal (n / 10) ++ ((48 + n % 10) ∷ [])
unfolding decimal
decimal-more n h k = more 18 n h k

pub number_more : (n : ℕ) → 10 ≤ n → n < 10 ^ 20 → decimal (n / 10) ++ be 1 (48 + n % 10) ≡ decimal n
number_more n h k = rw (be-one (48 + n % 10) (omega arith)) (sym (decimal-more n h k))

-- ---- lengths

pub last-size : (n : ℕ) → n < 10 → length (decimal n) ≡ 1
last-size n h = rw (decimal-last n h)

pub more-size : (n : ℕ) → 10 ≤ n → n < 10 ^ 20 → length (decimal n) ≡ length (decimal (n / 10)) + 1
more-size n h k = rw (decimal-more n h k) (length-append (decimal (n / 10)) ((48 + n % 10) ∷ []))

short : (m k n : ℕ) → n < 10 ^ suc k → length (digits m n) ≤ suc k
unfolding digits
short zero k n h = omega arith
short (suc m) zero n h = rw (lt-ltb n 10 (omega arith)) (omega arith)
short (suc m) (suc k) n h =
    split (ltb n 10)
    (λ e. rw e (omega arith))
    (λ e. rw e (omega (arith, length-append (digits m (n / 10)) ((48 + n % 10) ∷ []), short m k (n / 10) (omega arith))))

-- a number below ten to the k has k digits at most
pub decimal-short : (k n : ℕ) → n < 10 ^ suc k → length (decimal n) ≤ suc k
unfolding decimal
decimal-short k n h = short 20 k n h

pub numbers-short : (k : ℕ) (ns : List ℕ) → All (λ n. n < 10 ^ suc k) ns → length (numbers ns) ≤ (2 + k) * length ns
unfolding numbers
numbers-short k [] all = omega arith
numbers-short k (n ∷ ns) all =
    omega (arith, length-append (codes " " ++ decimal n) (numbers ns), decimal-short k n all.0, numbers-short k ns all.1)

-- and none more than twenty
most-digits : (m n : ℕ) → length (digits m n) ≤ m
unfolding digits
most-digits zero n = omega arith
most-digits (suc m) n =
    split (ltb n 10)
    (λ e. rw e (omega arith))
    (λ e. rw e (omega (arith, length-append (digits m (n / 10)) ((48 + n % 10) ∷ []), most-digits m (n / 10))))

decimal-most : (n : ℕ) → length (decimal n) ≤ 20
unfolding decimal
decimal-most n = most-digits 20 n

pub numbers-most : (ns : List ℕ) → length (numbers ns) ≤ 21 * length ns
unfolding numbers
numbers-most [] = omega arith
numbers-most (n ∷ ns) = omega (arith, length-append (codes " " ++ decimal n) (numbers ns), decimal-most n, numbers-most ns)

-- ---- the numbers from a place on

pub numbers_more : (ns : List ℕ) (i : ℕ) → i < length ns → numbers (drop i ns) ≡ (codes " " ++ decimal (get_or ns i 0)) ++ numbers (drop (i + 1) ns)
unfolding numbers
numbers_more ns i h = rw (rest_cons ns i h)

pub numbers-none : (ns : List ℕ) (i : ℕ) → length ns ≤ i → numbers (drop i ns) ≡ []
unfolding numbers
numbers-none ns i h = rw (rest-none ns i h)

-- ---- a decimal number is read back as the number, and has no zero in front

-- the number that some digits are, after the number v
abbrev pub read_from : ℕ → List ℕ → ℕ
read_from v [] = v
read_from v (c ∷ cs) = read_from (10 * v + (c - 48)) cs

read-append : (v c : ℕ) (cs : List ℕ) → read_from v (cs ++ (c ∷ [])) ≡ 10 * read_from v cs + (c - 48)
read-append v c [] = refl
read-append v c (d ∷ cs) = read-append (10 * v + (d - 48)) c cs

reads : (m n : ℕ) → n < 10 ^ m → read_from 0 (digits m n) ≡ n
unfolding digits
reads zero n h = omega arith
reads (suc m) n h =
    split (ltb n 10)
    (λ e. rw e (omega arith))
    (λ e. rw (e, read-append 0 (48 + n % 10) (digits m (n / 10))) (omega (arith, reads m (n / 10) (omega arith))))

pub decimal_reads : (n : ℕ) → n < 10 ^ 20 → read_from 0 (decimal n) ≡ n
unfolding decimal
decimal_reads n h = reads 20 n h

-- of a number that is not 0 the first digit is not 0
leads : (m n : ℕ) → 0 < n → n < 10 ^ m → 48 < get_or (digits m n) 0 0
unfolding digits
leads zero n p h = absurd (omega arith)
leads (suc m) n p h =
    split (ltb n 10)
    (λ e. rw e (omega arith))
    (λ e.
    let l : 10 ≤ n = ltb-false _ _ e in
    let i = leads m (n / 10) (omega arith) (omega arith) in
    let some : 0 < length (digits m (n / 10)) = front (digits m (n / 10)) i in
    rw (e, get_or-append (digits m (n / 10)) ((48 + n % 10) ∷ []) 0 0 some) i)
  where
    front : (cs : List ℕ) → 48 < get_or cs 0 0 → 0 < length cs
    front [] h = absurd (omega arith)
    front (c ∷ cs) h = omega arith

pub decimal_leads : (n : ℕ) → 0 < n → n < 10 ^ 20 → 48 < get_or (decimal n) 0 0
unfolding decimal
decimal_leads n p h = leads 20 n p h
