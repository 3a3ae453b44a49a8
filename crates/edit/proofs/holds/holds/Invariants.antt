-- `edit::holds` meets its contract. The invariant: the docid is sought in the postings of the blocks left (`Seekings`). Assumes nothing.
use Rattle.shelf.specs.Blocks.{blocks_left}
use Rattle.edit.proofs.Seekings.{Looking}
use Rattle.edit.proofs.holds.holds.Given as goal

abbrev pub invariant-loop-b : goal.invariant-loop-b
invariant-loop-b l = Looking l.s l.d (blocks_left l.s l.initial.reading) l.reading

abbrev pub decreases-loop-b : goal.decreases-loop-b
decreases-loop-b l = l.reading.left
