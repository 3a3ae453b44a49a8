-- `first_wrong` meets its contract: what is left of the lists takes what was met on to the answer (`Wrongs`). Assumes nothing.
use mathlib.Core.Path.{◌≡◌}
use lib.ListN.{length, drop}
use Rattle.prune.specs.Prune.{earlier}
use Rattle.exhaustive.specs.Merge.{fault_left, start_lefts, wrong_of}
use Rattle.exhaustive.proofs.wrong.first_wrong.Given as goal

abbrev pub invariant-loop-at : goal.invariant-loop-at
invariant-loop-at l = earlier (wrong_of l.w) (fault_left l.shelf (drop (length l.yielded) (start_lefts l.fn.ats l.fn.counts))) ≡ fault_left l.shelf (start_lefts l.fn.ats l.fn.counts)
