-- Before the first interval: each list's place. Assumes nothing.
use Prim.Native.Nat.{ℕ, zero, suc, ◌≤◌, ◌<◌}
use mathlib.Core.Path.{◌≡◌, refl, ap, ◌∙◌}
use mathlib.Core.List.{List, [], ◌∷◌, ◌++◌}
use native.Mathlib.Omega.{arith}
use lib.ListN.{length, get_or, set, take, drop, length-append, length-take, length-drop, get_or-append}
use lib.Seq.{get_or-take}
use borrow.Rule.Slice.PartMut.{put_mid}
use Rattle.model.specs.Limits.{max_terms}
use Rattle.opening.specs.Table.{from_of}
use Rattle.intervals.specs.Run.{Begins}

place_after : (ends rest : List ℕ) → 7 ≤ length ends → (t : ℕ) → t < max_terms → get_or (0 ∷ (take 7 ends ++ rest)) t 0 ≡ from_of ends t
place_after ends rest e zero l = refl
place_after ends rest e (suc t) l = get_or-append (take 7 ends) rest 0 t (omega (arith, length-take 7 ends)) ∙ get_or-take 7 ends t 0 (omega arith)

-- the first list's place is 0, the others' are the ends before theirs
pub begins_all : (ends ats part : List ℕ) → length ends ≡ max_terms → length ats ≡ max_terms → part ≡ take 7 ends → Begins ends (put_mid 1 7 (set ats 0 0) part) max_terms
begins_all ends [] part e a p = absurd (omega arith)
begins_all ends (x ∷ ats) part e a p = rw p (record {
  long = ap suc (length-append (take 7 ends) (drop 7 ats) ∙ omega (arith, length-take 7 ends, length-drop 7 ats));
  each = place_after ends _ (omega arith);
})
