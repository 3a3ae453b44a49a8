-- `shelf::walk::bodies_at` meets its contract. The invariant: the answer for all is the answer for those that are left, in the first one's layout. Assumes nothing.
use Rattle.block.specs.Body.{is_strip}
use Rattle.shelf.specs.Walk.{bodies, bodies_of}
use Prim.Native.Nat.{◌-◌}
use mathlib.Core.Path.{◌≡◌}
use lib.ListN.{drop}
use Rattle.shelf.proofs.walk.bodies_at.Given as goal

abbrev pub invariant-loop-turn : goal.invariant-loop-turn
invariant-loop-turn l = bodies l.n l.at (drop l.at l.s) ≡ bodies_of (is_strip (drop l.at l.s)) (l.n - l.turn) l.p (drop l.p l.s)
