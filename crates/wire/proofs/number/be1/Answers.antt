-- `wire::be1` meets its contract. Assumes nothing.
use Rattle.wire.proofs.Numbers.{num_1}
use mathlib.Core.Path.{sym}
use Rattle.wire.proofs.number.be1.Goals as goal

pub returns : goal.returns
returns c = sym (num_1 c.args.at c.args.s.now c.requires)
