-- `edit::put_all` meets its contract. The invariant: what the lists left come to is left to store (`Lefts`). Assumes nothing.
use mathlib.Core.Path.{◌≡◌}
use mathlib.Core.List.{List}
use lib.ListN.{length}
use Rattle.model.specs.Outcome.{done}
use Rattle.shelf.specs.Walk.{Listing}
use Rattle.shelf.specs.Check.{checked}
use Rattle.change.specs.Seat.{Wide}
use Rattle.edit.proofs.Lefts.{Putting}
use Rattle.edit.proofs.withdraw.put_all.Given as goal

abbrev pub invariant-loop-list : goal.invariant-loop-list
invariant-loop-list l = Wide l.docs l.scores × ((ls : List Listing) → checked l.s ≡ done ls → Putting l.s l.d ls l.initial.out l.out l.lists l.j) × (length l.out ≡ length l.initial.out)

abbrev pub decreases-loop-list : goal.decreases-loop-list
decreases-loop-list l = l.lists.left
