-- `wrong_in` meets its contract: what is left of the list takes what was met on to the answer (`Wrongs`). Assumes nothing.
use Rattle.prune.specs.Prune.{earlier, fault_in}
use Rattle.exhaustive.specs.Merge.{on_shelf, wrong_of}
use Rattle.exhaustive.proofs.Wrongs.{Seeking}
use Rattle.exhaustive.proofs.wrong.wrong_in.Given as goal

abbrev pub invariant-loop-b : goal.invariant-loop-b
invariant-loop-b l = Seeking l.shelf (earlier (wrong_of l.initial.w) (fault_in (on_shelf l.shelf l.initial.reading))) l.reading (wrong_of l.w)

abbrev pub decreases-loop-b : goal.decreases-loop-b
decreases-loop-b l = l.reading.left
