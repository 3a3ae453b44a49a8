use Rattle.std.proofs.Common.{◌*◌, ◌≤◌}
use Rattle.trial.proofs.table.Table.weigh.Given as goal

-- 16,711,425 is 255 times 65,535
abbrev pub invariant-loop-term : goal.invariant-loop-term
invariant-loop-term l = l.sum ≤ 16711425 * l.term
