-- `shelf::check::bad_body` meets its contract. The invariant: the first wrong body of all is the first of those that are left (`Readings`). Assumes nothing.
use Rattle.shelf.proofs.Readings.{Judging}
use Rattle.shelf.proofs.check.bad_body.Given as goal

abbrev pub invariant-loop-b : goal.invariant-loop-b
invariant-loop-b l = Judging l.s l.initial.reading l.reading

abbrev pub decreases-loop-b : goal.decreases-loop-b
decreases-loop-b l = l.reading.left
