-- `query::read::take_terms` meets its contract. The invariant: what is left to store gives what is asked (`Fillings`). Assumes nothing.
use native.Mathlib.Omega.{arith}
use Rattle.query.proofs.Fillings.{filling_turn, filling_end}
use Rattle.query.proofs.read.take_terms.Goals as goal

pub loop-i-preserved : goal.loop-i-preserved
loop-i-preserved c =
    let l = c.loop-i in
    let a = c.args in
    rw (c.term_of.ensures, c.weight_of.ensures)
    (filling_turn a.q.now a.n l.i l.terms l.weights l.invariant c.loop-i-test.true)

pub returns : goal.returns
returns c =
    let l = c.loop-i in
    let a = c.args in
    filling_end a.q.now a.n l.i l.terms l.weights l.invariant a.k c.requires.0 (omega arith)
