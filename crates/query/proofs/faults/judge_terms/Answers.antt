-- `query::faults::judge_terms` meets its contract: each return is a law of `Judging` at the tests that led there. Assumes nothing.
use mathlib.Core.Path.{sym, ◌∙◌}
use lib.ListN.{length}
use Rattle.model.specs.Refusal.{number}
use Rattle.model.proofs.Refusals.{refused_up}
use Rattle.query.proofs.Judging.{judge_no_k, judge_large_k, judge_no_term, judge_many_terms, judge-weight, judge_repeat}
use Rattle.query.proofs.faults.judge_terms.Goals.{then-k-eq0-via-then-k-eq0, then-k-eq0-via-else-k-eq0+then-k-gt-MAX_K}
use Rattle.query.proofs.faults.judge_terms.Goals as goal

pub returns-then-k-eq0 : goal.returns-then-k-eq0
returns-then-k-eq0 c =
    let a = c.args in
    rw c.at.ensures
    (elim c.then-k-eq0.branch [
      | then-k-eq0-via-then-k-eq0 w ↦ sym (judge_no_k (length a.q.now) a.k a.n a.q.now w.if-k-eq0.true)
      | then-k-eq0-via-else-k-eq0+then-k-gt-MAX_K w ↦ sym (judge_large_k (length a.q.now) a.k a.n a.q.now w.if-k-eq0.false w.if-k-gt-MAX_K.true)
    ])

pub returns-then-n-eq0 : goal.returns-then-n-eq0
returns-then-n-eq0 c =
    let a = c.args in
    rw c.at-then-n-eq0.ensures (sym (judge_no_term (length a.q.now) a.k a.n a.q.now c.if-k-eq0.false c.if-k-gt-MAX_K.false c.if-n-eq0.true))

pub returns-then-n-gt-MAX_TERMS : goal.returns-then-n-gt-MAX_TERMS
returns-then-n-gt-MAX_TERMS c =
    let a = c.args in
    rw c.at-then-n-gt-MAX_TERMS.ensures (sym (judge_many_terms (length a.q.now) a.k a.n a.q.now c.if-k-eq0.false c.if-k-gt-MAX_K.false c.if-n-eq0.false c.if-n-gt-MAX_TERMS.true))

pub returns-in_err-judge_weights : goal.returns-in_err-judge_weights
returns-in_err-judge_weights c =
    let a = c.args in
    let r = c.in_err-judge_weights.field-0.0 in
    refused_up c.from_residual.result r c.from_residual.ensures.1
    ∙ sym (judge-weight (length a.q.now) a.k a.n a.q.now c.if-k-eq0.false c.if-k-gt-MAX_K.false c.if-n-eq0.false c.if-n-gt-MAX_TERMS.false
    (number r.fault) r.offset (sym c.in_err-judge_weights.ensures))

pub returns : goal.returns
returns c =
    let a = c.args in
    c.judge_repeats.ensures
    ∙ sym (judge_repeat (length a.q.now) a.k a.n a.q.now c.if-k-eq0.false c.if-k-gt-MAX_K.false c.if-n-eq0.false c.if-n-gt-MAX_TERMS.false
    (sym c.in_ok-judge_weights.ensures))
