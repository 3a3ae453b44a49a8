-- `convert::turn_bodies` meets its contract. The invariant: the bodies turned and those of the blocks left, turned, are all (`Turnings`). Assumes nothing.
use Rattle.convert.proofs.Turnings.{TurningFrom}
use Rattle.convert.proofs.convert.turn_bodies.Given as goal

abbrev pub invariant-loop-b : goal.invariant-loop-b
invariant-loop-b l = TurningFrom l.s l.initial.reading l.initial.out l.out l.reading

abbrev pub decreases-loop-b : goal.decreases-loop-b
decreases-loop-b l = l.reading.left
