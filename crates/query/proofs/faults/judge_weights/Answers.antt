-- `query::faults::judge_weights` meets its contract. The invariant: the answer for all is the answer for those that are left. Assumes nothing.
use native.Mathlib.Omega.{arith}
use mathlib.Core.Path.{sym, ◌∙◌}
use Rattle.query.proofs.Judging.{weights-zero, weights-next, weights-end}
use Rattle.query.proofs.faults.judge_weights.Goals as goal

pub returns-then-weight_of-eq0 : goal.returns-then-weight_of-eq0
returns-then-weight_of-eq0 c =
    let a = c.args in
    rw c.at.ensures (sym (c.loop-i.invariant ∙ weights-zero a.n c.loop-i.i a.q.now c.loop-i-test.true (sym c.weight_of.ensures ∙ c.if-weight_of-eq0.true)))

pub loop-i-preserved : goal.loop-i-preserved
loop-i-preserved c =
    let a = c.args in
    c.loop-i.invariant ∙ weights-next a.n c.loop-i.i a.q.now c.loop-i-test.true (λ e. c.if-weight_of-eq0.false (c.weight_of.ensures ∙ e))

pub returns : goal.returns
returns c = sym (c.loop-i.invariant ∙ weights-end c.args.n c.loop-i.i c.args.q.now (omega arith))
