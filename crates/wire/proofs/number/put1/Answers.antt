-- `wire::put1` meets its contract. Assumes nothing.
use Rattle.wire.proofs.Numbers.{be-length, be-one}
use native.Mathlib.Omega.{arith}
use Rattle.wire.proofs.number.put1.Goals as goal

pub returns : goal.returns
returns c = record { past = omega (arith, be-length 1 c.args.b); whole = rw (be-one c.args.b (omega arith)) }
