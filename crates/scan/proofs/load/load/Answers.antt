-- `load` meets its contract: the laws of `Loadings` say it of a body that is right and of one that is wrong. Assumes nothing.
use Rattle.scan.proofs.Loadings.{load-right}
use Rattle.scan.proofs.load.load.Goals as goal

pub returns-then-read_body : goal.returns-then-read_body
returns-then-read_body c =
    let a = c.args in
    load-right a.m a.body.now a.weight a.t a.docs.now a.scores.now _ _ c.requires (rw c.if-read_body.true at c.read_body.ensures)
