-- `lent::rows::held` meets its contract: the least of the keeper's number, 100 and the room. Assumes nothing.
use borrow.Author.Rules.{rules}
use native.Mathlib.Omega.{arith}
use mathlib.Core.Path.{◌≡◌}
use lib.ListN.{length}
use Rattle.lent.proofs.Hits.{held_as}
use Rattle.lent.proofs.rows.held.Goals as goal

pub returns : goal.returns
returns c =
    let g = c.args in
    let a : length g.kept.docids ≡ 100 = search rules in
    let b : length g.kept.scores ≡ 100 = search rules in
    held_as g.kept g.room _ a b (omega arith)
