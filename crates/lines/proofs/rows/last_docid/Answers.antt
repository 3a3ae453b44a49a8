-- `lines::rows::last_docid` meets its contract. Assumes nothing.
use Rattle.model.specs.Limits.{max_docid}
use Rattle.lines.proofs.Printing.{last-next, last-limit, asc_at}
use Prim.Native.Nat.{◌+◌}
use native.Mathlib.Omega.{arith}
use mathlib.Core.Path.{sym}
use Rattle.lines.proofs.rows.last_docid.Goals as goal

pub overflow_sub-result : goal.overflow_sub-result
overflow_sub-result c = let a = c.args in omega (arith, asc_at 0 (a.i + 1) a.firsts.now c.requires.1 (omega arith))

pub returns-then-next-firsts : goal.returns-then-next-firsts
returns-then-next-firsts c = let a = c.args in sym (last-next max_docid (a.i + 1) a.firsts.now (omega arith))

pub returns : goal.returns
returns c = let a = c.args in sym (last-limit max_docid (a.i + 1) a.firsts.now (omega arith))
