-- `ended` meets its contract. Assumes nothing.
use mathlib.Core.Path.{refl}
use Rattle.scan.specs.Load.{head_of}
use Rattle.opening.proofs.enter.ended.Goals as goal

pub returns : goal.returns
unfolding head_of
returns c = refl
