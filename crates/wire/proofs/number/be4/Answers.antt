-- `wire::be4` meets its contract: the four bytes, one by one. Assumes nothing.
use Rattle.wire.proofs.Numbers.{num_1, num-at}
use native.Mathlib.Omega.{arith}
use Rattle.wire.proofs.number.be4.Goals as goal

pub returns : goal.returns
returns c =
    let a = c.args in
    let s = a.s.now in
    omega (arith, c.from_be_bytes.ensures, num-at 3 a.at s (omega arith), num-at 2 a.at s (omega arith), num-at 1 a.at s (omega arith), num_1 a.at s (omega arith))
