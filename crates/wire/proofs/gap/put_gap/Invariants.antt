-- `wire::put_gap` meets its contract. The invariant: to store what is left of the number from here gives what is asked. Assumes nothing.
use Rattle.wire.specs.Gap.{gap_in}
use Prim.Native.Nat.{ℕ, suc, ◌+◌, ◌^◌, ◌<◌}
use mathlib.Core.Path.{◌≡◌}
use lib.ListN.{length}
use lib.Seq.{sets}
use Rattle.wire.proofs.gap.put_gap.Given as goal

abbrev pub invariant-loop-n : goal.invariant-loop-n
invariant-loop-n l = (f : ℕ) × (l.n < 128 ^ suc f) × (length l.out ≡ length l.initial.out)
    × (l.i + length (gap_in (suc f) l.n) ≡ l.at + length (gap_in 5 l.g)) × (sets l.out l.i (gap_in (suc f) l.n) ≡ sets l.initial.out l.at (gap_in 5 l.g))

abbrev pub decreases-loop-n : goal.decreases-loop-n
decreases-loop-n l = l.n
