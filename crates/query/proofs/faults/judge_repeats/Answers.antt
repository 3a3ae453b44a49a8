-- `query::faults::judge_repeats` meets its contract. The invariant: the answer for all is the answer for those that are left. Assumes nothing.
use native.Mathlib.Omega.{arith}
use mathlib.Core.Bool.{true, false}
use mathlib.Core.Path.{◌≡◌, sym, ◌∙◌}
use lib.ListN.{drop}
use Rattle.model.specs.Runs.{has}
use Rattle.query.specs.Query.{asked_in, term_at}
use Rattle.query.specs.Answers.{earlier}
use Rattle.query.proofs.Judging.{repeats_found, repeats_next, repeats_end}
use Rattle.query.proofs.faults.judge_repeats.Goals as goal

pub returns-then-is_earlier : goal.returns-then-is_earlier
returns-then-is_earlier c =
    let i = c.loop-i.i in
    let a = c.args in
    let e : has (asked_in (drop (term_at i) a.q.now)).term (earlier i a.q.now) ≡ true = cc in
    rw c.at.ensures (sym (c.loop-i.invariant ∙ repeats_found a.n i a.q.now c.loop-i-test.true e))

pub loop-i-preserved : goal.loop-i-preserved
loop-i-preserved c =
    let i = c.loop-i.i in
    let a = c.args in
    let e : has (asked_in (drop (term_at i) a.q.now)).term (earlier i a.q.now) ≡ false = cc in
    c.loop-i.invariant ∙ repeats_next a.n i a.q.now c.loop-i-test.true e

pub returns : goal.returns
returns c = sym (c.loop-i.invariant ∙ repeats_end c.args.n c.loop-i.i c.args.q.now (omega arith))
