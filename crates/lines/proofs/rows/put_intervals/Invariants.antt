-- `lines::rows::put_intervals` meets its contract. The invariant: to store the lines that are left from here gives what is asked. Assumes nothing.
use Rattle.model.specs.Limits.{max_docid}
use Rattle.model.proofs.Storing.{Rest}
use Rattle.lines.specs.Text.{interval_lines}
use lib.ListN.{drop}
use Rattle.lines.proofs.rows.put_intervals.Given as goal

abbrev pub invariant-loop-i : goal.invariant-loop-i
invariant-loop-i l = Rest l.initial.out l.out l.at l.j (interval_lines max_docid l.firsts l.ceilings l.marks) (interval_lines max_docid (drop l.i l.firsts) (drop l.i l.ceilings) (drop l.i l.marks))
