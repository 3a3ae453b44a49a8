-- `block::body::edge` meets its contract: by the layout, and by whether the scores fit. Assumes nothing.
use Rattle.block.proofs.Bodies.{edge-plain, edge-strip}
use native.Mathlib.Omega.{arith}
use borrow.Author.Tests.{not-true, not-false}
use Rattle.block.proofs.body.edge.Goals as goal

pub returns-then-not-m : goal.returns-then-not-m
returns-then-not-m c =
    let a = c.args in
    (edge-plain a.m.strip a.m.count a.s.now (not-true a.m.strip c.if-not-m.true), omega arith)

pub returns : goal.returns
returns c =
    let a = c.args in
    let e = edge-strip a.m.strip a.m.count a.s.now (not-false a.m.strip c.if-not-m.false) in
    (omega (arith, e, c.saturating_sub.ensures), omega (arith, c.saturating_sub.ensures))
