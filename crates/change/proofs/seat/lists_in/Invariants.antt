-- `change::seat::lists_in` meets its contract. The invariant: the lists counted and those left are all (`Seats`). Assumes nothing.
use Prim.Native.Nat.{◌+◌, ◌≤◌}
use Rattle.shelf.specs.Walk.{Listing}
use mathlib.Core.Path.{◌≡◌}
use mathlib.Core.List.{List}
use Rattle.model.specs.Limits.{max_lists}
use Rattle.model.specs.Outcome.{done}
use Rattle.shelf.specs.Check.{checked}
use Rattle.change.proofs.Seats.{Counting}
use Rattle.change.proofs.seat.lists_in.Given as goal

abbrev pub invariant-loop-list : goal.invariant-loop-list
invariant-loop-list l = (l.n + l.lists.left ≤ max_lists) × ((ls : List Listing) → checked l.s ≡ done ls → Counting l.s ls l.lists l.n)

abbrev pub decreases-loop-list : goal.decreases-loop-list
decreases-loop-list l = l.lists.left
