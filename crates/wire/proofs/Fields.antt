-- A field, by the tests that the code makes; round trips. Assumes nothing.
use Prim.Native.Nat.{ℕ, ◌+◌, ◌-◌, ◌≤◌, ◌<◌}
use native.Mathlib.Nat.{add-zero}
use native.Mathlib.Omega.{arith}
use mathlib.Core.Path.{◌≡◌, refl, sym, ap, ◌∙◌}
use mathlib.Core.Bool.{true, false, ◌&&◌}
use mathlib.Core.List.{List, [], ◌∷◌, ◌++◌, append_assoc}
use borrow.Author.Tests.{leb-true, eqb-true, le-leb, lt-leb, eq-eqb, ne_eqb}
use lib.Dec.{leb, eqb}
use lib.ListN.{length, get_or, take, drop, length-append, length-drop, take-append-drop}
use lib.Seq.{drop-drop, get_or-drop, drop_at, length-take-le, take-append_seam, drop-append_seam}
use Rattle.model.specs.Runs.{Bytes}
use Rattle.model.proofs.Lists.{bytes_drop, split, and-true}
use Rattle.wire.specs.Number.{num, be}
use Rattle.wire.specs.Field.{field_len, whole, field_value, field_bytes, field_at}
use Rattle.std.specs.Prelude.{Some, None}
use Rattle.wire.proofs.Numbers.{num-be, be-length, be-num}

-- ---- at a place

pub len_at : (s : List ℕ) (at : ℕ) → field_len (drop at s) ≡ num 2 (drop (at + 1) s)
unfolding field_len
len_at s at = rw (drop-drop 1 at s)

whole-at : (t : ℕ) (s : List ℕ) (at : ℕ) →
    whole t (drop at s) ≡ (leb 3 (length s - at) && (eqb (get_or s at 0) t && leb (3 + field_len (drop at s)) (length s - at)))
unfolding whole
whole-at t s at =
    let g : get_or (drop at s) 0 0 ≡ get_or s at 0 = get_or-drop at s 0 0 ∙ rw add-zero in
    rw (length-drop at s, g)

module _ (t : ℕ) (s : List ℕ) (at : ℕ) where
  pub field-short : length s < at + 3 → field_at t s at ≡ None
  unfolding field_at
  field-short h = rw (whole-at t s at, lt-leb 3 (length s - at) (omega arith))

  pub field-other : at + 3 ≤ length s → (get_or s at 0 ≡ t → ⊥) → field_at t s at ≡ None
  unfolding field_at
  field-other h n = rw (whole-at t s at, le-leb 3 (length s - at) (omega arith), ne_eqb (get_or s at 0) t n)

  pub field_cut : at + 3 ≤ length s → get_or s at 0 ≡ t → length s < at + (3 + num 2 (drop (at + 1) s)) → field_at t s at ≡ None
  unfolding field_at
  field_cut h e l =
      rw (whole-at t s at, le-leb 3 (length s - at) (omega arith), eq-eqb (get_or s at 0) t e, len_at s at, lt-leb (3 + num 2 (drop (at + 1) s)) (length s - at) (omega arith))

  pub field-there : at + 3 ≤ length s → get_or s at 0 ≡ t → at + (3 + num 2 (drop (at + 1) s)) ≤ length s → field_at t s at ≡ Some (num 2 (drop (at + 1) s))
  unfolding field_at
  field-there h e l =
      rw (whole-at t s at, le-leb 3 (length s - at) (omega arith), eq-eqb (get_or s at 0) t e, len_at s at, le-leb (3 + num 2 (drop (at + 1) s)) (length s - at) (omega arith))

-- the value at a place, as the code cuts it out
pub value-at : (s : List ℕ) (at n : ℕ) → n ≡ field_len (drop at s) → take (at + 3 + n - (at + 3)) (drop (at + 3) s) ≡ field_value (drop at s)
unfolding field_value
value-at s at n e =
    let q : at + 3 + n - (at + 3) ≡ field_len (drop at s) = omega arith in
    rw (q, drop-drop 3 at s)

-- ---- what is whole

pub whole-size : (t : ℕ) (s : List ℕ) → whole t s ≡ true → 3 + field_len s ≤ length s
unfolding whole
whole-size t s e =
    let a = and-true (leb 3 (length s)) _ e in
    let b = and-true (eqb (get_or s 0 0) t) _ a.1 in
    leb-true _ _ b.1

pub whole-tag : (t : ℕ) (s : List ℕ) → whole t s ≡ true → get_or s 0 0 ≡ t
unfolding whole
whole-tag t s e =
    let a = and-true (leb 3 (length s)) _ e in
    let b = and-true (eqb (get_or s 0 0) t) _ a.1 in
    eqb-true _ _ b.0

-- ---- from what the code found back to what was read

pub field_is : (t : ℕ) (s : List ℕ) (at n : ℕ) → field_at t s at ≡ Some n → (whole t (drop at s) ≡ true) × (field_len (drop at s) ≡ n)
unfolding field_at
field_is t s at n e =
    split (whole t (drop at s))
    (λ w. let q : Some (field_len (drop at s)) ≡ Some n = rw w at e in (w, (cc)))
    (λ w. let q : None ≡ Some n = rw w at e in let z : ◌≡◌ {A = ℕ} 0 1 = cc in absurd (omega arith))

pub field-not : (t : ℕ) (s : List ℕ) (at : ℕ) → field_at t s at ≡ None → whole t (drop at s) ≡ false
unfolding field_at
field-not t s at e =
    split (whole t (drop at s))
    (λ w. let q : Some (field_len (drop at s)) ≡ None = rw w at e in let z : ◌≡◌ {A = ℕ} 0 1 = cc in absurd (omega arith))
    (λ w. w)

pub field_room : (t : ℕ) (s : List ℕ) (at n : ℕ) → field_at t s at ≡ Some n → at + (3 + n) ≤ length s
field_room t s at n e =
    let i = field_is t s at n e in
    omega (arith, whole-size t (drop at s) i.0, i.1, length-drop at s)

-- ---- what is written is read back

pub field-size : (t : ℕ) (v : List ℕ) → length (field_bytes t v) ≡ 3 + length v
unfolding field_bytes
field-size t v = omega (arith, length-append (be 2 (length v)) v, be-length 2 (length v))

tests : (t : ℕ) (s : List ℕ) (n m : ℕ) → get_or s 0 0 ≡ t → field_len s ≡ n → length s ≡ 3 + n + m → whole t s ≡ true
unfolding whole
tests t s n m e l k =
    rw (le-leb 3 (length s) (omega arith), eq-eqb (get_or s 0 0) t e, l, le-leb (3 + n) (length s) (omega arith))

front : (t : ℕ) (v r : List ℕ) → get_or (field_bytes t v ++ r) 0 0 ≡ t
unfolding field_bytes
front t v r = refl

pub head-drop : (t : ℕ) (v r : List ℕ) → drop 3 (field_bytes t v ++ r) ≡ v ++ r
unfolding field_bytes
head-drop t v r =
    rw (append_assoc (be 2 (length v)) v r) (drop_at (be 2 (length v)) (v ++ r) 2 (be-length 2 (length v)))

module _ (t : ℕ) (v r : List ℕ) (short : length v < 65536) where
  pub len_round : field_len (field_bytes t v ++ r) ≡ length v
  unfolding field_len field_bytes
  len_round = rw (append_assoc (be 2 (length v)) v r) (num-be 2 (length v) (v ++ r) short)

  pub whole_round : whole t (field_bytes t v ++ r) ≡ true
  whole_round =
      tests t (field_bytes t v ++ r) (length v) (length r) (front t v r) len_round (length-append (field_bytes t v) r ∙ rw (field-size t v))

  pub value_round : field_value (field_bytes t v ++ r) ≡ v
  unfolding field_value
  value_round = rw (len_round, head-drop t v r) (take-append_seam v r)

  pub past_round : drop (3 + length v) (field_bytes t v ++ r) ≡ r
  past_round = rw (← field-size t v) (drop-append_seam (field_bytes t v) r)

-- ---- what is read is what would be written

cons_of : (s : List ℕ) → 1 ≤ length s → s ≡ get_or s 0 0 ∷ drop 1 s
cons_of [] h = absurd (omega arith)
cons_of (b ∷ s) h = refl

pub value-length : (t : ℕ) (s : List ℕ) → whole t s ≡ true → length (field_value s) ≡ field_len s
unfolding field_value
value-length t s e = length-take-le (field_len s) (drop 3 s) (simp length-drop (omega (arith, whole-size t s e)))

len_of : (s : List ℕ) → field_len s ≡ num 2 (drop 1 s)
unfolding field_len
len_of s = refl

value-parts : (s : List ℕ) → field_value s ++ drop (3 + field_len s) s ≡ drop 2 (drop 1 s)
unfolding field_value
value-parts s = rw (← drop-drop (field_len s) 3 s) (take-append-drop (field_len s) (drop 3 s) ∙ sym (drop-drop 2 1 s))

pub field-only : (t : ℕ) (s : List ℕ) → Bytes s → whole t s ≡ true → field_bytes t (field_value s) ++ drop (3 + field_len s) s ≡ s
unfolding field_bytes
field-only t s h e =
    let size = whole-size t s e in
    let n : be 2 (num 2 (drop 1 s)) ++ drop 2 (drop 1 s) ≡ drop 1 s = be-num 2 (drop 1 s) (bytes_drop 1 s h) (simp length-drop (omega arith)) in
    rw (append_assoc (be 2 (length (field_value s))) (field_value s) (drop (3 + field_len s) s), value-parts s, value-length t s e, len_of s, n)
    (ap (λ (x : ℕ). x ∷ drop 1 s) (sym (whole-tag t s e)) ∙ sym (cons_of s (omega arith)))
