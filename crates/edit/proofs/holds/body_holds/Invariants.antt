-- `edit::holds::body_holds` meets its contract. The invariant: the docid is sought in the postings left (`Seekings`). Assumes nothing.
use Rattle.block.specs.Cursor.{run_at}
use Rattle.edit.proofs.Seekings.{Seeking}
use Rattle.edit.proofs.holds.body_holds.Given as goal

abbrev pub invariant-loop-doc : goal.invariant-loop-doc
invariant-loop-doc l = Seeking l.d (run_at l.gaps l.points l.initial.c) (run_at l.gaps l.points l.c)

abbrev pub decreases-loop-doc : goal.decreases-loop-doc
decreases-loop-doc l = l.c.left
