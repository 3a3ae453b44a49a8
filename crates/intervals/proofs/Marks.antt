-- Marks written from one place up to another, and one by one. Assumes nothing.
use Prim.Native.Nat.{ℕ, zero, suc, ◌+◌, ◌-◌, ◌≤◌, ◌<◌}
use mathlib.Core.Path.{◌≡◌, refl, ap, ◌∙◌}
use mathlib.Core.Bool.{true, false}
use mathlib.Core.List.{List, [], ◌∷◌, ◌++◌}
use native.Mathlib.Omega.{arith}
use lib.ListN.{length, get_or, set, take, drop, replicate, length-replicate, length-set, length-take, length-drop}
use lib.Seq.{sets, sets-eq, drop-drop}
use borrow.Rule.Slice.PartMut.{put_mid}
use Rattle.std.proofs.Common.{append_assoc}
use Rattle.model.proofs.Lists.{up_to_next}
use Rattle.model.proofs.Storing.{sets-append}
use Rattle.intervals.specs.Book.{opens_by, Skips}

replicate_more : (n v : ℕ) → replicate (suc n) v ≡ replicate n v ++ (v ∷ [])
replicate_more zero v = refl
replicate_more (suc n) v = ap {B = List ℕ} (λ t. v ∷ t) (replicate_more n v)

-- ---- marks from one place up to another, at once

pub marks_filled : (old part : List ℕ) (from n v : ℕ) → from + n ≤ length old → part ≡ replicate (length (take n (drop from old))) v
    → put_mid from n old part ≡ sets old from (replicate n v)
marks_filled old part from n v l e =
    let long : length (take n (drop from old)) ≡ n = omega (arith, length-take n (drop from old), length-drop from old) in
    let m : length (replicate n v) ≡ n = length-replicate n v in
    rw (e, long, sets-eq (replicate n v) old from (omega arith), m, drop-drop, append_assoc)

-- ---- marks one by one: what they have become up to a place

pub record Marking (old : List ℕ) (from upto v : ℕ) (row : List ℕ) (i : ℕ) : Type 0 where
  pub on : from ≤ i
  pub within : i ≤ upto
  pub same : length row ≡ length old
  pub done : row ≡ sets old from (replicate (i - from) v)

pub marking_none : (old : List ℕ) (from upto v : ℕ) → from ≤ upto → Marking old from upto v old from
marking_none old from upto v l =
    let e : from - from ≡ 0 = omega arith in
    record { on = omega arith; within = l; same = refl; done = rw e }

pub marking_more : (old : List ℕ) (from upto v : ℕ) (row : List ℕ) (i : ℕ) → i < upto → Marking old from upto v row i → Marking old from upto v (set row i v) (i + 1)
marking_more old from upto v row i l m =
    let n : i + 1 - from ≡ suc (i - from) = omega (arith, m.on) in
    let p : from + length (replicate (i - from) v) ≡ i = omega (arith, length-replicate (i - from) v, m.on) in
    record {
      on = omega (arith, m.on);
      within = omega arith;
      same = length-set row i v ∙ m.same;
      done = rw (n, replicate_more (i - from) v, sets-append old from (replicate (i - from) v) (v ∷ []), p, ← m.done);
    }

-- ---- the intervals passed over

pub record Passing (ceilings : List ℕ) (n kth from : ℕ) (old row : List ℕ) (i : ℕ) : Type 0 where
  pub marking : Marking old from n 0 row i
  pub shut : (j : ℕ) → from ≤ j → j < i → opens_by kth (get_or ceilings j 0) ≡ false

pub passing_none : (ceilings : List ℕ) (n kth from : ℕ) (old : List ℕ) → from ≤ n → Passing ceilings n kth from old old from
passing_none ceilings n kth from old l = record { marking = marking_none old from n 0 l; shut = λ j a b. absurd (omega arith) }

pub passing_more : (ceilings : List ℕ) (n kth from : ℕ) (old row : List ℕ) (i : ℕ) → i < n → opens_by kth (get_or ceilings i 0) ≡ false
    → Passing ceilings n kth from old row i → Passing ceilings n kth from old (set row i 0) (i + 1)
passing_more ceilings n kth from old row i l e p = record {
  marking = marking_more old from n 0 row i l p.marking;
  shut = up_to_next (λ j. opens_by kth (get_or ceilings j 0) ≡ false) from i p.shut e;
}

pub passing_done : (ceilings : List ℕ) (n kth from : ℕ) (old row : List ℕ) (i : ℕ) → (i < n → opens_by kth (get_or ceilings i 0) ≡ true)
    → Passing ceilings n kth from old row i → Skips ceilings n kth from old row i
passing_done ceilings n kth from old row i o p = record {
  on = p.marking.on;
  upto = p.marking.within;
  shut = p.shut;
  opened = o;
  marked = p.marking.done;
}
