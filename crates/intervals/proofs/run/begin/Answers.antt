-- `begin` meets its contract. Assumes nothing.
use Rattle.intervals.proofs.Beginnings.{begins_all}
use Rattle.intervals.proofs.run.begin.Goals as goal

pub returns : goal.returns
returns c = begins_all _ _ _ c.requires.0 c.requires.1 c.copy_from_slice.ensures.after
