-- `change::copy::copy` meets its contract. The invariant: what is left to copy stands where it is due (`Copies`). Assumes nothing.
use Prim.Native.Nat.{◌+◌, ◌-◌}
use mathlib.Core.Path.{◌≡◌}
use native.Mathlib.Omega.{arith}
use Rattle.change.proofs.Copies.{copy-turn}
use Rattle.change.proofs.copy.copy.Goals as goal

pub loop-i-preserved : goal.loop-i-preserved
loop-i-preserved c =
    let a = c.args in
    let l = c.loop-i in
    let onward : a.at + (l.i + 1 - a.from) ≡ a.at + (l.i - a.from) + 1 = omega (arith, l.auto.i) in
    rw onward (copy-turn a.s.now a.from a.to a.out.now a.at c.requires.1 l.out l.i (a.at + (l.i - a.from)) c.loop-i-test.true l.invariant)
