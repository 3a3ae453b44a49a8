-- `embed::tagmurlen_rank_all` meets its contract: the ranking fits the rows, and its hits are what is told. Assumes nothing.
use Rattle.embed.proofs.Ranks.{rank-fits}
use Rattle.embed.proofs.searches.tagmurlen_rank_all.Goals as goal

pub tell_hits-requires : goal.tell_hits-requires
tell_hits-requires c = rank-fits _ _ _ _ _ _ c.rank_all-ranked.ensures c.min-rows.ensures
