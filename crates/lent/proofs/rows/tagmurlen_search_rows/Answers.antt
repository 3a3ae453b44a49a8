-- `lent::rows::tagmurlen_search_rows` meets its contract: the hits are written, or the rows are as they were; the counts and the book are the search's.
-- Assumes nothing.
use Rattle.pruned.proofs.Searches.{searched-within}
use Rattle.lent.proofs.Hits.{rowed}
use Rattle.lent.proofs.rows.tagmurlen_search_rows.Goals as goal

pub returns-in-Ok : goal.returns-in-Ok
returns-in-Ok c =
    let r = c.in-Ok.ensures in
    record {
      rowed = rowed _ _ _ r.outcome r.whole (searched-within _ _ _ _ _ _) c.fill.ensures;
      booked = record {
        intervals = r.book.intervals;
        opened = r.opened;
        blocks = r.blocks;
        firsts = r.book.firsts;
        ceilings = r.book.ceilings;
        marks = r.book.marks;
      };
    }
