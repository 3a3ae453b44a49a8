-- `block::summary_of` meets its contract. Assumes nothing.
use Rattle.block.proofs.Bodies.{summary-of}
use mathlib.Core.Path.{sym}
use Rattle.block.proofs.summary.summary_of.Goals as goal

pub returns : goal.returns
returns c =
    let a = c.args in
    let q = c.requires in
    rw c.top_of.ensures (sym (summary-of a.strip a.docs.now a.scores.now q.2 q.0))
