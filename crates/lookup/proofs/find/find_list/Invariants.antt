-- `lookup::find::find_list` meets its contract. The invariant: the answer for all is the answer for the lists that are left, after what is known.
-- Assumes nothing.
use mathlib.Core.Path.{◌≡◌}
use Rattle.lookup.specs.Find.{found}
use Rattle.shelf.specs.Answers.{placed}
use Rattle.shelf.specs.Cursor.{lists_at}
use Rattle.lookup.proofs.Finds.{shown_from}
use Rattle.lookup.proofs.find.find_list.Given as goal

abbrev pub invariant-loop-list : goal.invariant-loop-list
invariant-loop-list l = placed (found l.term l.s) ≡ shown_from l.known l.term (lists_at l.s l.walk)

abbrev pub decreases-loop-list : goal.decreases-loop-list
decreases-loop-list l = l.walk.left
