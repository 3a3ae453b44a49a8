use Rattle.std.proofs.Common.{◌-◌, ◌≤◌}
use Rattle.trial.proofs.damage.field_of.Given as goal

abbrev pub invariant-loop-at : goal.invariant-loop-at
invariant-loop-at l = l.at ≤ l.place

abbrev pub decreases-loop-at : goal.decreases-loop-at
decreases-loop-at l = l.place - l.at
