-- A query's fields, by the tests that the code makes. Assumes nothing.
use Prim.Native.Nat.{ℕ, zero, suc, ◌+◌, ◌*◌, ◌-◌, ◌/◌, ◌≤◌, ◌<◌}
use native.Mathlib.Omega.{arith}
use native.Mathlib.Numerals.{sub-one, add-one}
use mathlib.Core.Path.{◌≡◌, refl, sym, ap, ◌∙◌}
use mathlib.Core.List.{List, [], ◌∷◌}
use mathlib.Core.Bool.{Bool, true, false, cond, ◌||◌, or-false}
use borrow.Author.Tests.{eqb-true, eqb-false, eq-eqb, ne_eqb}
use lib.Dec.{eqb}
use lib.ListN.{length, drop, length-drop}
use lib.Seq.{drop-drop}
use Rattle.std.proofs.Common.{add-zero}
use Rattle.std.specs.List.{list_any, range_with_len}
use Rattle.model.specs.Outcome.{done}
use Rattle.model.specs.Runs.{has}
use Rattle.model.proofs.Lists.{split, and-true}
use Rattle.wire.specs.Number.{num}
use Rattle.wire.specs.Field.{whole, field_len, field_at}
use Rattle.std.specs.Option.{option_eq}
use Rattle.wire.proofs.Fields.{field_is, field-not, whole-size}
use Rattle.query.specs.Query.{is_field, tag_k, tag_term, term_at, asked_in, terms_in, term_count, field_count, all_right}
use Rattle.query.specs.Answers.{earlier}
use Rattle.std.specs.Prelude.{Option, Some, None, Result, Ok, Err}

-- ---- a field of a tag and a length

module _ (tag len : ℕ) (s : List ℕ) (at : ℕ) where
  pub is-field-found : (o : Option ℕ) → field_at tag s at ≡ o → is_field tag len (drop at s) ≡ option_eq eqb o (Some len)
  unfolding is_field
  is-field-found (Some n) e = let i = field_is tag s at n e in rw (i.0, i.1)
  is-field-found None e = rw (field-not tag s at e)

pub is-field-room : (tag len : ℕ) (s : List ℕ) → is_field tag len s ≡ true → 3 + len ≤ length s
unfolding is_field
is-field-room tag len s e =
    let a = and-true (whole tag s) _ e in
    omega (arith, whole-size tag s a.0, eqb-true (field_len s) len a.1)

-- ---- the term fields off the front of some bytes

pub count_none : (fuel n : ℕ) (l : List ℕ) → length l ≤ 0 → term_count fuel n l ≡ Ok n
unfolding term_count
count_none zero n [] h = refl
count_none (suc fuel) n [] h = refl
count_none zero n (b ∷ l) h = absurd (omega arith)
count_none (suc fuel) n (b ∷ l) h = absurd (omega arith)

pub count-some : (fuel n : ℕ) (l : List ℕ) → 0 < fuel → 0 < length l →
    term_count fuel n l ≡ cond (is_field tag_term 5 l) (term_count (fuel - 1) (n + 1) (drop 8 l)) (Err (term_at n))
unfolding term_count
count-some zero n l f h = absurd (omega arith)
count-some (suc fuel) n [] f h = absurd (omega arith)
count-some (suc fuel) n (b ∷ l) f h = rw sub-one

-- n fields were passed, and the next is at `at`: the count of all goes on from there
pub record Counting (s : List ℕ) (n at : ℕ) : Type 0 where
  pub place : at ≡ term_at n
  pub within : at ≤ length s
  pub left : field_count s ≡ term_count (length s - n) n (drop at s)

pub counting_none : (s : List ℕ) → is_field tag_k 1 s ≡ false → field_count s ≡ Err 0
unfolding field_count
counting_none s e = rw e

pub counting_start : (s : List ℕ) → is_field tag_k 1 s ≡ true → Counting s 0 4
unfolding field_count
counting_start s e =
    let z : length s - 0 ≡ length s = omega arith in
    record { place = refl; within = is-field-room tag_k 1 s e; left = rw (e, z) }

module _ (s : List ℕ) (n at : ℕ) (c : Counting s n at) where
  pub counting_end : length s ≤ at → field_count s ≡ Ok n
  counting_end h = c.left ∙ count_none (length s - n) n (drop at s) (omega (arith, length-drop at s))

  module _ (h : at < length s) where
    onward : field_count s ≡ cond (is_field tag_term 5 (drop at s)) (term_count (length s - n - 1) (n + 1) (drop 8 (drop at s))) (Err (term_at n))
    onward = c.left ∙ count-some (length s - n) n (drop at s) (omega (arith, c.place)) (omega (arith, length-drop at s))

    pub counting_wrong : is_field tag_term 5 (drop at s) ≡ false → field_count s ≡ Err at
    counting_wrong e = rw (onward, e, c.place)

    pub counting_turn : is_field tag_term 5 (drop at s) ≡ true → Counting s (n + 1) (at + 8)
    counting_turn e =
        let f : length s - n - 1 ≡ length s - (n + 1) = omega arith in
        record {
          place = omega (arith, c.place);
          within = omega (arith, is-field-room tag_term 5 (drop at s) e, length-drop at s);
          left = onward ∙ rw (e, f, drop-drop 8 at s);
        }

-- ---- a count that went to the end

pub count-size : (fuel n : ℕ) (l : List ℕ) (m : ℕ) → term_count fuel n l ≡ Ok m → length l + 8 * n ≡ 8 * m
unfolding term_count
count-size zero n [] m e = let f : n ≡ m = cc in omega arith
count-size (suc fuel) n [] m e = let f : n ≡ m = cc in omega arith
count-size zero n (b ∷ l) m e = let z : ◌≡◌ {A = ℕ} 0 1 = cc in absurd (omega arith)
count-size (suc fuel) n (b ∷ l) m e =
    split (is_field tag_term 5 (b ∷ l))
    (λ w.
    let f : term_count fuel (n + 1) (drop 8 (b ∷ l)) ≡ Ok m = rw w at e in
    omega (arith, count-size fuel (n + 1) (drop 8 (b ∷ l)) m f, length-drop 8 (b ∷ l), is-field-room tag_term 5 (b ∷ l) w))
    (λ w.
    let f : Err (term_at n) ≡ Ok m = rw w at e in
    let z : ◌≡◌ {A = ℕ} 0 1 = cc in
    absurd (omega arith))

-- the fields of which nothing is refused were counted
pub right-counted : (r : Result ℕ ℕ) (n : ℕ) → all_right r ≡ done n → r ≡ Ok n
right-counted (Ok m) n e = let f : m ≡ n = cc in ap Ok f
right-counted (Err at) n e = let z : ◌≡◌ {A = ℕ} 0 1 = cc in absurd (omega arith)

-- the query ends where its last term field does
pub fields_size : (s : List ℕ) (n : ℕ) → field_count s ≡ Ok n → length s ≡ term_at n
unfolding field_count
fields_size s n e =
    split (is_field tag_k 1 s)
    (λ w.
    let f : term_count (length s) 0 (drop 4 s) ≡ Ok n = rw w at e in
    omega (arith, count-size (length s) 0 (drop 4 s) n f, length-drop 4 s, is-field-room tag_k 1 s w))
    (λ w.
    let f : Err 0 ≡ Ok n = rw w at e in
    let z : ◌≡◌ {A = ℕ} 0 1 = cc in
    absurd (omega arith))

-- so its size tells how many there are
pub counted : (s : List ℕ) (n : ℕ) → field_count s ≡ Ok n → done (length s / 8) ≡ all_right (field_count s)
counted s n e = let z : length s / 8 ≡ n = omega (arith, fields_size s n e) in rw (z, e)

-- ---- the terms at their places

pub term-at : (s : List ℕ) (i : ℕ) → (asked_in (drop (term_at i) s)).term ≡ num 4 (drop (term_at i + 3) s)
term-at s i = rw (drop-drop 3 (term_at i) s)

pub weight-at : (s : List ℕ) (i : ℕ) → (asked_in (drop (term_at i) s)).weight ≡ num 1 (drop (term_at i + 7) s)
weight-at s i = rw (drop-drop 7 (term_at i) s)

pub terms-length : (n : ℕ) (s : List ℕ) → length (terms_in n s) ≡ n
unfolding terms_in
terms-length zero s = refl
terms-length (suc n) s = ap suc (terms-length n (drop 8 s))

pub terms-none : (n i : ℕ) (s : List ℕ) → n ≤ i → terms_in (n - i) (drop (term_at i) s) ≡ []
unfolding terms_in
terms-none n i s h = let e : n - i ≡ 0 = omega arith in rw e

pub terms-more : (n i : ℕ) (s : List ℕ) → i < n →
    terms_in (n - i) (drop (term_at i) s) ≡ asked_in (drop (term_at i) s) ∷ terms_in (n - (i + 1)) (drop (term_at (i + 1)) s)
unfolding terms_in
terms-more n i s h =
    let e : n - i ≡ suc (n - (i + 1)) = omega arith in
    let f : term_at i + 8 ≡ term_at (i + 1) = omega arith in
    rw (e, drop-drop 8 (term_at i) s, f)

pub earlier_more : (i : ℕ) (s : List ℕ) → earlier (i + 1) s ≡ (asked_in (drop (term_at i) s)).term ∷ earlier i s
earlier_more i s = rw (add-one i)

-- a search for a term in the fields with the indices from i on, n of them, where i were searched before

-- the term field with index j has the term t
abbrev pub asks : (t : ℕ) → List ℕ → ℕ → Bool
asks t s j = eqb (asked_in (drop (term_at j) s)).term t

-- the numbers may stand on either side
turned : (t x : ℕ) → eqb t x ≡ eqb x t
turned t x =
    split (eqb x t)
    (λ e. rw e (eq-eqb t x (sym (eqb-true x t e))))
    (λ e. rw e (ne_eqb t x (λ f. eqb-false x t e (sym f))))

-- whether the one in front is searched first or last
reordered : (a b c : Bool) → (b || (a || c)) ≡ ((a || b) || c)
reordered true true c = refl
reordered true false c = refl
reordered false true c = refl
reordered false false c = refl

pub earlier-any : (t : ℕ) (s : List ℕ) (i n : ℕ) → has t (earlier (i + n) s) ≡ (list_any (asks t s) (range_with_len i n) || has t (earlier i s))
earlier-any t s i zero = rw add-zero
earlier-any t s i (suc n) =
    let f : i + suc n ≡ i + 1 + n = omega arith in
    let x = (asked_in (drop (term_at i) s)).term in
    rw (f, earlier-any t s (i + 1) n, earlier_more i s, turned t x) (reordered (asks t s i) (list_any (asks t s) (range_with_len (i + 1) n)) (has t (earlier i s)))

pub earlier-all : (t : ℕ) (s : List ℕ) (n : ℕ) → list_any (asks t s) (range_with_len 0 n) ≡ has t (earlier n s)
earlier-all t s n = let f : 0 + n ≡ n = omega arith in sym (rw f at (earlier-any t s 0 n) ∙ or-false _)
