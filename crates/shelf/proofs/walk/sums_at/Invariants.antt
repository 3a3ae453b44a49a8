-- `shelf::walk::sums_at` meets its contract. The invariant: the answer for all is the answer for those that are left. Assumes nothing.
use Rattle.shelf.specs.Walk.{sums}
use Prim.Native.Nat.{◌-◌}
use mathlib.Core.Path.{◌≡◌}
use lib.ListN.{drop}
use Rattle.shelf.proofs.walk.sums_at.Given as goal

abbrev pub invariant-loop-turn : goal.invariant-loop-turn
invariant-loop-turn l = sums l.n 0 l.at (drop l.at l.s) ≡ sums (l.n - l.turn) l.prev l.p (drop l.p l.s)
