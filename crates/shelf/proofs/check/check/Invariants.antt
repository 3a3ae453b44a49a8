-- `shelf::check::check` meets its contract. The invariant: the answer for all is the answer for the lists that are left, after the wrong body found.
-- Assumes nothing.
use mathlib.Core.Path.{◌≡◌}
use Rattle.shelf.specs.Check.{checked, judged}
use Rattle.shelf.specs.Cursor.{lists_at}
use Rattle.shelf.proofs.Checks.{finish}
use Rattle.shelf.proofs.check.check.Given as goal

abbrev pub invariant-loop-list : goal.invariant-loop-list
invariant-loop-list l = judged (checked l.s) ≡ judged (finish l.bad (lists_at l.s l.walk))

abbrev pub decreases-loop-list : goal.decreases-loop-list
decreases-loop-list l = l.walk.left
