-- `open_all` meets its contract: what stands at each place of the heads, and what is left filled from the front. Assumes nothing.
use mathlib.Core.Path.{◌≡◌}
use lib.ListN.{length, take}
use Rattle.exhaustive.specs.Merge.{start_lefts}
use Rattle.exhaustive.proofs.merge.open_all.Given as goal

abbrev pub invariant-loop-t : goal.invariant-loop-t
invariant-loop-t l = (length l.lefts ≡ 8) × (take l.t l.lefts ≡ take l.t (start_lefts l.ats l.counts))
