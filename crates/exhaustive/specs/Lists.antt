-- The query's lists as a search sees them: each with its weight and its blocks on the shelf. Assumes nothing.
use Rattle.std.specs.Prelude.{cond, List, map}
use Rattle.model.specs.Outcome.{Outcome, refused, done}
use Rattle.model.specs.Post.{Post}
use Rattle.block.specs.Body.{right_body, body_run}
use Rattle.shelf.specs.Walk as shelf
use Rattle.lookup.specs.Gather.{term_blocks}
use Rattle.query.specs.Query.{Asked}
use Rattle.rank.specs.Match.{Term}
use Rattle.prune.specs.Cut.{Block, Listing}

-- "8: wrong body: its tag"; a right body is its postings
abbrev pub body_of : shelf.Block → Outcome (List Post)
body_of b = cond (right_body b.sum b.body) (done (body_run b.sum b.body)) (refused 8 b.body_at)

abbrev pub block_of : shelf.Block → Block
block_of b = record { least = b.sum.least; greatest = b.sum.greatest; top = b.sum.top; body = body_of b }

-- the list of a term that is asked, in the walk's lists: "A term not on the shelf is a list without blocks."
abbrev pub listing_of : List shelf.Listing → Asked → Listing
listing_of ls a = record { weight = a.weight; blocks = map block_of (term_blocks a.term ls) }

abbrev pub listings_of : List Asked → List shelf.Listing → List Listing
listings_of xs ls = map (listing_of ls) xs

-- a term that is asked, with the postings that the shelf holds for it
abbrev pub term_on : List shelf.Listing → Asked → Term
term_on ls a = record { weight = a.weight; posts = shelf.posts_of (term_blocks a.term ls) }
