-- `lines::line::put_interval` meets its contract: the line of each mark. Assumes nothing.
use Rattle.model.proofs.Storing.{stored_as}
use Rattle.lines.proofs.Lines.{opened-line, skipped-line}
use native.Mathlib.Omega.{arith}
use mathlib.Core.Path.{ap}
use lib.ListN.{length}
use Rattle.lines.proofs.line.put_interval.Goals as goal

pub put_line-requires : goal.put_line-requires
put_line-requires c = omega (arith, ap length (opened-line c.args.first c.args.last c.args.ceiling c.args.mark (omega arith)))

pub returns-then-mark-eq1 : goal.returns-then-mark-eq1
returns-then-mark-eq1 c = stored_as (opened-line c.args.first c.args.last c.args.ceiling c.args.mark (omega arith)) c.put_line.ensures

pub put_line-requires-2 : goal.put_line-requires-2
put_line-requires-2 c = omega (arith, ap length (skipped-line c.args.first c.args.last c.args.ceiling c.args.mark (λ e. omega arith)))

pub returns : goal.returns
returns c = stored_as (skipped-line c.args.first c.args.last c.args.ceiling c.args.mark (λ e. omega arith)) c.put_line-2.ensures
