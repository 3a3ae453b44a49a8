-- `lines::split::split` meets its contract. The invariant: the fields up to here are passed. Assumes nothing.
use Rattle.lines.proofs.Splits.{Passing}
use lib.ListN.{length}
use Prim.Native.Nat.{◌-◌}
use Rattle.lines.proofs.split.split.Given as goal

abbrev pub invariant-loop-n : goal.invariant-loop-n
invariant-loop-n l = Passing l.input l.at

abbrev pub decreases-loop-n : goal.decreases-loop-n
decreases-loop-n l = length l.input - l.at
