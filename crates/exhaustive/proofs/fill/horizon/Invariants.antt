-- `horizon` meets its contract: what is left of the lists takes the docid on to the answer. Assumes nothing.
use Prim.Native.Nat.{◌≤◌, min}
use mathlib.Core.Path.{◌≡◌}
use lib.ListN.{length, drop}
use Rattle.rank.specs.Run.{none}
use Rattle.exhaustive.specs.Merge.{horizon_of}
use Rattle.exhaustive.proofs.fill.horizon.Given as goal

abbrev pub invariant-loop-head : goal.invariant-loop-head
invariant-loop-head l = (l.last ≤ none) × (horizon_of l.fn.heads l.fn.lefts ≡ min l.last (horizon_of (drop (length l.yielded) l.fn.heads) (drop (length l.yielded) l.fn.lefts)))
