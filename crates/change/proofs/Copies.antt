-- A loop that copies a part of some bytes into a buffer. Assumes nothing.
use Prim.Native.Nat.{ℕ, suc, ◌+◌, ◌-◌, ◌≤◌, ◌<◌}
use native.Mathlib.Omega.{arith}
use mathlib.Core.Path.{◌≡◌, refl}
use mathlib.Core.List.{List, [], ◌∷◌, ◌++◌}
use lib.ListN.{length, get_or, set, take, drop, length-drop}
use lib.Seq.{length-take-le}
use Rattle.model.specs.Runs.{Stored}
use Rattle.model.proofs.Lists.{rest_cons}
use Rattle.model.proofs.Storing.{Rest, rest-start, rest-turn, rest_end}

-- the bytes from i up to an end
abbrev pub up_to : (to : ℕ) → List ℕ → ℕ → List ℕ
up_to to s i = take (to - i) (drop i s)

up_more : (to : ℕ) (s : List ℕ) (i : ℕ) → i < to → to ≤ length s → up_to to s i ≡ (get_or s i 0 ∷ []) ++ up_to to s (i + 1)
up_more to s i l h =
    let k : to - i ≡ suc (to - (i + 1)) = omega arith in
    rw (k, rest_cons s i (omega arith))

pub up-length : (to : ℕ) (s : List ℕ) (i : ℕ) → to ≤ length s → length (up_to to s i) ≡ to - i
up-length to s i h = length-take-le (to - i) (drop i s) (omega (arith, length-drop i s))

-- i up to the end is left to copy, at j
pub record Copying (s : List ℕ) (from to : ℕ) (l m : List ℕ) (at i j : ℕ) : Type 0 where
  pub most : i ≤ to
  pub rest : Rest l m at j (up_to to s from) (up_to to s i)

module _ (s : List ℕ) (from to : ℕ) (l : List ℕ) (at : ℕ) (inside : to ≤ length s) where
  pub copy_start : from ≤ to → Copying s from to l l at from at
  copy_start h = record { most = h; rest = rest-start l at (up_to to s from) }

  pub copy-room : (m : List ℕ) (i j : ℕ) → at + (to - from) ≤ length l → i < to → Copying s from to l m at i j → j < length m
  copy-room m i j room h c = omega (arith, c.rest.same, c.rest.place, up-length to s i inside, up-length to s from inside)

  pub copy-turn : (m : List ℕ) (i j : ℕ) → i < to → Copying s from to l m at i j → Copying s from to l (set m j (get_or s i 0)) at (i + 1) (j + 1)
  copy-turn m i j h c =
      record {
        most = omega arith;
        rest = rest-turn (get_or s i 0 ∷ []) (up_to to s (i + 1)) (up_more to s i h inside) c.rest (record { past = refl; whole = refl });
      }

  pub copy_done : (m : List ℕ) (i j : ℕ) → to ≤ i → Copying s from to l m at i j → Stored l m at j (up_to to s from)
  copy_done m i j h c =
      let z : to - i ≡ 0 = omega arith in
      rest_end (rw z) c.rest
