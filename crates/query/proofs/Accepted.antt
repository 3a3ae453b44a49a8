-- What an accepted query asks is in range. Assumes nothing.
use Prim.Native.Nat.{ℕ, zero, suc, ◌*◌, ◌^◌, ◌≤◌, ◌<◌}
use native.Mathlib.Omega.{arith}
use mathlib.Core.Path.{◌≡◌, refl, subst}
use mathlib.Core.List.{List, []}
use lib.ListN.{length, drop, length-drop}
use Rattle.model.specs.Limits.{max_weight}
use Rattle.model.specs.Outcome.{Outcome, done, and_then}
use Rattle.model.specs.Runs.{All, Bytes}
use Rattle.model.proofs.Lists.{bytes_drop, All_both}
use Rattle.wire.specs.Number.{num}
use Rattle.wire.proofs.Numbers.{num-below}
use Rattle.query.specs.Query.{Asked, Question, terms_in, question, field_count, all_right, judge, asked}
use Rattle.query.specs.Range.{InRange}
use Rattle.std.specs.Prelude.{Result, Ok, Err}
use Rattle.query.proofs.Parts.{fields_size}
use Rattle.query.proofs.Judging.{then_done, faultless}
use Rattle.query.proofs.Apart.{weights-above, unrepeated-once}

-- the fields of an accepted query are right, the tests find nothing, and its fields say what it asks
pub record Accepted (s : List ℕ) (x : Question) (n : ℕ) : Type 0 where
  pub counted : field_count s ≡ Ok n
  pub clear : judge (length s) x ≡ done tt
  pub says : question (num 1 (drop 3 s)) n s ≡ x

abbrev answer : (s : List ℕ) → Result ℕ ℕ → Outcome Question
answer s r =
    and_then (all_right r) (λ n.
    let x = question (num 1 (drop 3 s)) n s in
    and_then (judge (length s) x) (λ ok. done x))

by_fields : (s : List ℕ) (x : Question) (r : Result ℕ ℕ) → field_count s ≡ r → answer s r ≡ done x → (n : ℕ) × Accepted s x n
by_fields s x (Ok n) f g =
    let d = then_done (judge (length s) (question (num 1 (drop 3 s)) n s)) (λ ok. done (question (num 1 (drop 3 s)) n s)) x g in
    let says : done (question (num 1 (drop 3 s)) n s) ≡ done x = d.1 in
    let same : question (num 1 (drop 3 s)) n s ≡ x = cc in
    (n, record { counted = f; clear = rw same at d.0; says = same })
by_fields s x (Err at) f g = let z : ◌≡◌ {A = ℕ} 0 1 = cc in absurd (omega arith)

pub accepted : (s : List ℕ) (x : Question) → asked s ≡ done x → (n : ℕ) × Accepted s x n
unfolding asked
accepted s x e = by_fields s x (field_count s) refl e

-- what 4 bytes and 1 byte can say
abbrev Bounded : Asked → Type 0
Bounded a = (a.term < 2 ^ 32) × (a.weight ≤ max_weight)

bounded : (n : ℕ) (s : List ℕ) → Bytes s → 8 * n ≤ length s → All Bounded (terms_in n s)
unfolding terms_in
bounded zero s b h = tt
bounded (suc n) s b h =
    let t : num 4 (drop 3 s) < 2 ^ 32 = num-below 4 (drop 3 s) (bytes_drop 3 s b) (simp length-drop (omega arith)) in
    let w : num 1 (drop 7 s) < 256 = num-below 1 (drop 7 s) (bytes_drop 7 s b) (simp length-drop (omega arith)) in
    ((t, omega arith), bounded n (drop 8 s) (bytes_drop 8 s b) (simp length-drop (omega arith)))

-- "k, terms, weight: 1 to 100, 1 to 8, 1 to 255", and no term twice
pub accepted_in_range : (s : List ℕ) (x : Question) → Bytes s → asked s ≡ done x → InRange x
accepted_in_range s x b e =
    let n = (accepted s x e).0 in
    let a : Accepted s x n = (accepted s x e).1 in
    let f = faultless (length s) x a.clear in
    let room : 8 * n ≤ length (drop 4 s) = simp length-drop (omega (arith, fields_size s n a.counted)) in
    let all : All Bounded x.terms = subst (λ (y : Question). All Bounded y.terms) a.says (bounded n (drop 4 s) (bytes_drop 4 s b) room) in
    record {
      k_low = f.k_low;
      k_high = f.k_high;
      some = f.some;
      few = f.few;
      each = All_both x.terms (λ y p w. (p.0, w, p.1)) all (weights-above 0 x.terms f.weighed);
      once = (unrepeated-once [] 0 x.terms f.once).1;
    }
