-- Where the query ends, by the fields that the code finds. Assumes nothing.
use Prim.Native.Nat.{ℕ, zero, suc, ◌+◌, ◌-◌, ◌≤◌}
use native.Mathlib.Omega.{arith}
use native.Mathlib.Numerals.{sub-one}
use mathlib.Core.Path.{◌≡◌, refl}
use mathlib.Core.List.{List}
use mathlib.Core.Bool.{true, false}
use lib.ListN.{length, drop, length-drop}
use lib.Seq.{drop-drop}
use Rattle.model.proofs.Lists.{split}
use Rattle.wire.specs.Field.{whole, field_len, field_at}
use Rattle.std.specs.Option.{option_or}
use Rattle.std.specs.Prelude.{Some, None}
use Rattle.wire.proofs.Fields.{whole-size}
use Rattle.lines.specs.Split.{of_query, query_field_at, size_in, query_size}

-- ---- a field of the query, by the two tags

module _ (s : List ℕ) (at : ℕ) where
  pub field-either : query_field_at s at ≡ option_or (field_at 0x20 s at) (field_at 0x21 s at)
  unfolding query_field_at of_query field_at
  field-either = split (whole 0x20 (drop at s)) (λ w. rw w) (λ w. rw w)

  of_is : (n : ℕ) → query_field_at s at ≡ Some n → (of_query (drop at s) ≡ true) × (field_len (drop at s) ≡ n)
  unfolding query_field_at
  of_is n e =
      split (of_query (drop at s))
      (λ w. let q : Some (field_len (drop at s)) ≡ Some n = rw w at e in (w, (cc)))
      (λ w. let q : None ≡ Some n = rw w at e in let z : ◌≡◌ {A = ℕ} 0 1 = cc in absurd (omega arith))

  of-not : query_field_at s at ≡ None → of_query (drop at s) ≡ false
  unfolding query_field_at
  of-not e =
      split (of_query (drop at s))
      (λ w. let q : Some (field_len (drop at s)) ≡ None = rw w at e in let z : ◌≡◌ {A = ℕ} 0 1 = cc in absurd (omega arith))
      (λ w. w)

of_size : (s : List ℕ) → of_query s ≡ true → 3 + field_len s ≤ length s
unfolding of_query
of_size s e =
    split (whole 0x20 s)
    (λ w. whole-size 0x20 s w)
    (λ w. let f : whole 0x21 s ≡ true = rw w at e in whole-size 0x21 s f)

size_none : (fuel : ℕ) (s : List ℕ) → of_query s ≡ false → size_in fuel s ≡ 0
unfolding size_in
size_none zero s e = refl
size_none (suc fuel) s e = rw e

size-more : (fuel : ℕ) (s : List ℕ) → 1 ≤ fuel → of_query s ≡ true → size_in fuel s ≡ 3 + field_len s + size_in (fuel - 1) (drop (3 + field_len s) s)
unfolding size_in
size-more zero s h e = absurd (omega arith)
size-more (suc fuel) s h e = rw (e, sub-one)

-- ---- the loop: the fields up to `at` are passed

pub record Passing (s : List ℕ) (at : ℕ) : Type 0 where
  pub fuel : ℕ
  pub enough : length s ≤ at + fuel
  pub within : at ≤ length s
  pub left : query_size s ≡ at + size_in fuel (drop at s)

pub passing_start : (s : List ℕ) → Passing s 0
unfolding query_size
passing_start s = record { fuel = length s; enough = omega arith; within = omega arith; left = omega arith }

module _ (s : List ℕ) (at : ℕ) (p : Passing s at) where
  pub passing_turn : (n : ℕ) → query_field_at s at ≡ Some n → Passing s (at + (3 + n))
  passing_turn n e =
      let i = of_is s at n e in
      let room = of_size (drop at s) i.0 in
      let m = size-more p.fuel (drop at s) (omega (arith, p.enough, length-drop at s)) i.0 in
      record {
        fuel = p.fuel - 1;
        enough = omega (arith, p.enough);
        within = omega (arith, i.1, length-drop at s);
        left = rw (← i.1, ← drop-drop (3 + field_len (drop at s)) at s) (omega (arith, p.left));
      }

  pub passing_end : query_field_at s at ≡ None → query_size s ≡ at
  passing_end e = omega (arith, p.left, size_none p.fuel (drop at s) (of-not s at e))

-- ---- the query lies within the input

within : (fuel : ℕ) (s : List ℕ) → size_in fuel s ≤ length s
unfolding size_in
within zero s = omega arith
within (suc fuel) s =
    split (of_query s)
    (λ e.
    let n = 3 + field_len s in
    rw e (omega (arith, of_size s e, within fuel (drop n s), length-drop n s)))
    (λ e. rw e (omega arith))

pub query-within : (s : List ℕ) → query_size s ≤ length s
unfolding query_size
query-within s = within (length s) s
