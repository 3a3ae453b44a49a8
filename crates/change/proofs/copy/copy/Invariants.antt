-- `change::copy::copy` meets its contract. The invariant: what is left to copy stands where it is due (`Copies`). Assumes nothing.
use Prim.Native.Nat.{◌+◌, ◌-◌}
use Rattle.change.proofs.Copies.{Copying}
use Rattle.change.proofs.copy.copy.Given as goal

abbrev pub invariant-loop-i : goal.invariant-loop-i
invariant-loop-i l = Copying l.s l.from l.to l.initial.out l.out l.at l.i (l.at + (l.i - l.from))
