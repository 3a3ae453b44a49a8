-- `block::summary_in` meets its contract. Assumes nothing.
use Rattle.block.proofs.Summaries.{sum-numbers}
use mathlib.Core.Path.{sym}
use Rattle.block.proofs.summary.summary_in.Goals as goal

pub returns : goal.returns
returns c =
    let a = c.args in
    rw (c.be3.ensures, c.be3-2.ensures, c.be2.ensures, c.be1.ensures) (sym (sum-numbers a.s.now a.at a.strip))
