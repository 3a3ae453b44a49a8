-- `change::seat::find_seat` meets its contract. The invariant: the seat among the lists left is the seat among all (`Seats`). Assumes nothing.
use lib.ListN.{length}
use Prim.Native.Nat.{◌≤◌}
use Rattle.shelf.specs.Walk.{Listing}
use mathlib.Core.Path.{◌≡◌}
use mathlib.Core.List.{List}
use Rattle.model.specs.Outcome.{done}
use Rattle.shelf.specs.Check.{checked}
use Rattle.change.proofs.Seats.{Seating}
use Rattle.change.proofs.seat.find_seat.Given as goal

abbrev pub invariant-loop-list : goal.invariant-loop-list
invariant-loop-list l = (l.lists.at ≤ length l.s) × ((ls : List Listing) → checked l.s ≡ done ls → Seating l.s l.term ls l.lists)

abbrev pub decreases-loop-list : goal.decreases-loop-list
decreases-loop-list l = l.lists.left
