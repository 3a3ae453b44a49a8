-- `horizon` meets its contract: what is left of the lists takes the docid on to the answer. Assumes nothing.
use native.Mathlib.Omega.{arith}
use Rattle.exhaustive.proofs.Fillings.{horizon-top}
use Rattle.exhaustive.proofs.fill.horizon.Goals as goal

pub loop-head-init : goal.loop-head-init
loop-head-init c = (omega arith, omega (arith, horizon-top c.args.heads c.args.lefts))
