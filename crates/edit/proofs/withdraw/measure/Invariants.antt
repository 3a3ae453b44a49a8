-- `edit::measure` meets its contract. The invariant: what was added up and what the lists left come to is all (`Lefts`). Assumes nothing.
use mathlib.Core.Path.{◌≡◌}
use mathlib.Core.List.{List}
use Prim.Native.Nat.{◌*◌, ◌≤◌}
use lib.ListN.{length}
use Rattle.model.specs.Outcome.{done}
use Rattle.shelf.specs.Walk.{Listing}
use Rattle.shelf.specs.Check.{checked}
use Rattle.change.specs.Seat.{Wide}
use Rattle.edit.proofs.Lefts.{Adding}
use Rattle.edit.proofs.withdraw.measure.Given as goal

abbrev pub invariant-loop-list : goal.invariant-loop-list
invariant-loop-list l =
    (l.bytes ≤ 45769 * l.lists.at) × (l.lists.at ≤ length l.s) × Wide l.docs l.scores × ((ls : List Listing) → checked l.s ≡ done ls → Adding l.s l.d ls l.lists l.bytes l.held)

abbrev pub decreases-loop-list : goal.decreases-loop-list
decreases-loop-list l = l.lists.left
