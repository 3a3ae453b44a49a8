-- `list::read::count` meets its contract. The invariant: what was counted and what the blocks left say is all (`Pours`). Assumes nothing.
use Rattle.shelf.specs.Blocks.{blocks_left}
use Rattle.list.proofs.Pours.{Counting}
use Rattle.list.proofs.read.count.Given as goal

abbrev pub invariant-loop-b : goal.invariant-loop-b
invariant-loop-b l = Counting l.s (blocks_left l.s l.initial.reading) l.reading l.n

abbrev pub decreases-loop-b : goal.decreases-loop-b
decreases-loop-b l = l.reading.left
