-- `query::read::read_query` meets its contract: each return is a law of `Judging` at what the calls found. Assumes nothing.
use native.Mathlib.Omega.{arith}
use mathlib.Core.Path.{◌≡◌, sym}
use lib.ListN.{length}
use Rattle.std.proofs.lemmas.Result.{err_from_is_err_and}
use Rattle.model.specs.Refusal.{number}
use Rattle.query.specs.Query.{term_at, question, field_count}
use Rattle.query.proofs.Parts.{right-counted, fields_size}
use Rattle.query.proofs.Judging.{asked-wrong, asked_bad, asked-good, good-few}
use Rattle.query.proofs.read.read_query.Goals as goal

pub returns-in_err-n : goal.returns-in_err-n
returns-in_err-n c =
    let p = err_from_is_err_and c.from_residual.result c.from_residual.ensures.1 in
    let r = c.in_err-n.field-0.0 in
    rw (p.1, p.2) (asked-wrong c.args.q.now (number r.fault) r.offset (sym c.in_err-n.ensures))

pub be1-k-requires : goal.be1-k-requires
be1-k-requires c =
    let q = c.args.q.now in
    omega (arith, fields_size q c.in_ok-n.n (right-counted (field_count q) c.in_ok-n.n (sym c.in_ok-n.ensures)))

pub judge_terms-requires : goal.judge_terms-requires
judge_terms-requires c =
    let q = c.args.q.now in
    omega (arith, fields_size q c.in_ok-n.n (right-counted (field_count q) c.in_ok-n.n (sym c.in_ok-n.ensures)))

pub returns-in_err-judge_terms : goal.returns-in_err-judge_terms
returns-in_err-judge_terms c =
    let p = err_from_is_err_and c.from_residual-in_err-judge_terms.result c.from_residual-in_err-judge_terms.ensures.1 in
    let r = c.in_err-judge_terms.field-0.0 in
    rw (p.1, p.2)
    (asked_bad c.args.q.now c.in_ok-n.n c.be1-k.result (sym c.in_ok-n.ensures) c.be1-k.ensures (number r.fault) r.offset (sym c.in_err-judge_terms.ensures))

pub take_terms-requires : goal.take_terms-requires
take_terms-requires c =
    let q = c.args.q.now in
    let n = c.in_ok-n.n in
    let sized : length q ≡ term_at n = fields_size q n (right-counted (field_count q) n (sym c.in_ok-n.ensures)) in
    (good-few (length q) c.be1-k.result n q (sym c.in_ok-judge_terms.ensures), omega (arith, sized))

pub returns : goal.returns
returns c =
    let q = c.args.q.now in
    let n = c.in_ok-n.n in
    let k = c.be1-k in
    (question k.result n q, asked-good q n k.result (sym c.in_ok-n.ensures) k.ensures (sym c.in_ok-judge_terms.ensures), c.take_terms.ensures)
