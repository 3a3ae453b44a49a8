-- `list::read::fill` meets its contract. The invariant: the postings poured and those of the blocks left are all (`Pours`). Assumes nothing.
use Rattle.shelf.specs.Blocks.{blocks_left}
use Rattle.list.proofs.Pours.{Pouring}
use Rattle.list.proofs.read.fill.Given as goal

abbrev pub invariant-loop-b : goal.invariant-loop-b
invariant-loop-b l = Pouring l.s (blocks_left l.s l.initial.reading) l.initial.docids l.initial.scores l.docids l.scores l.reading l.i

abbrev pub decreases-loop-b : goal.decreases-loop-b
decreases-loop-b l = l.reading.left
