-- `lent::rows::tagmurlen_rank_rows` meets its contract: the ranking is written, or the rows are as they were. Assumes nothing.
use Rattle.exhaustive.proofs.Alls.{rank-within}
use Rattle.lent.proofs.Hits.{rowed}
use Rattle.lent.proofs.rows.tagmurlen_rank_rows.Goals as goal

pub returns-in-Ok : goal.returns-in-Ok
returns-in-Ok c =
    let r = c.in-Ok.ensures in
    rowed _ _ _ r.answer r.whole (rank-within _ _ _) c.fill.ensures
