-- The rows before i are the keeper's first i hits. Assumes nothing.
use mathlib.Core.Path.{◌≡◌}
use Rattle.lent.specs.Rows.{with_hits}
use Rattle.lent.proofs.Hits.{first_hits}
use Rattle.lent.proofs.rows.fill.Given as goal

abbrev pub invariant-loop-i : goal.invariant-loop-i
invariant-loop-i l = l.row-items ≡ with_hits (first_hits l.kept l.i) l.initial.row-items
