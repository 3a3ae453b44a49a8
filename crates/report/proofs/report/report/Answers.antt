-- `report` meets its contract: an input that is too long is refused, and another split and searched. Assumes nothing.
use native.Mathlib.Omega.{arith}
use Rattle.lines.proofs.Splits.{query-within}
use Rattle.lines.proofs.Sizes.{refusal-short}
use Rattle.report.proofs.Reports.{too_long, searches}
use Rattle.report.proofs.report.report.Goals as goal

pub put_refusal-requires : goal.put_refusal-requires
put_refusal-requires c = rw c.at.ensures (omega (arith, c.requires, refusal-short 13 0))

pub returns-then-input-gt-MAX_INPUT : goal.returns-then-input-gt-MAX_INPUT
returns-then-input-gt-MAX_INPUT c = let a = c.args in too_long a.input.now a.out.now c.put_refusal.new.out c.put_refusal.result c.if-input-gt-MAX_INPUT.true c.requires (rw c.at.ensures at c.put_refusal.ensures)

pub slice_bounds-show-end : goal.slice_bounds-show-end
slice_bounds-show-end c = omega (arith, c.split-n.ensures, query-within c.args.input.now)

pub slice_bounds-show-count-2 : goal.slice_bounds-show-count-2
slice_bounds-show-count-2 c = omega (arith, c.split-n.ensures, query-within c.args.input.now)

pub slice_bounds-show-start-2 : goal.slice_bounds-show-start-2
slice_bounds-show-start-2 c = omega (arith, c.split-n.ensures, query-within c.args.input.now)

pub returns : goal.returns
returns c = let a = c.args in searches a.input.now a.out.now c.show.new.out c.show.result c.split-n.result c.if-input-gt-MAX_INPUT.false c.split-n.ensures c.show.ensures
