-- `embed::tagmurlen_search` meets its contract: the search fits the rows, its hits are what is told, and its counts and its book are as it left them.
-- Assumes nothing.
use Rattle.embed.proofs.Ranks.{search-fit}
use Rattle.embed.proofs.searches.tagmurlen_search.Goals as goal

pub tell_hits-requires : goal.tell_hits-requires
tell_hits-requires c = search-fit _ _ _ _ _ _ _ _ _ _ _ _ c.in-Ok.ensures c.min-rows.ensures
