-- What the pruned search gives: its hits, its counts and its book. Assumes nothing.
use Rattle.std.specs.Prelude.{ℕ, ◌≡◌, List}
use Rattle.pruned.specs.Pruned.{Answer}
use Rattle.embed.specs.Rows.{Hits}

-- ds and ss are lent for the hits; fs', cs' and ms' are the book's runs as they are left; i, o and b are the counts as they are stored
pub record Finds (a : Answer) (ds ss ds' ss' fs' cs' ms' : List ℕ) (number value i o b : ℕ) : Type 0 where
  pub hits : Hits a.outcome ds ss ds' ss' number value
  -- "Also returned: the number of intervals, the number of blocks met by an opened interval (each block once), the number of blocks in the query's lists"
  pub intervals : i ≡ a.intervals
  pub opened : o ≡ a.opened
  pub blocks : b ≡ a.blocks
  -- "The book has one row per interval in three lent runs: first docid, ceiling, mark"
  pub firsts : fs' ≡ a.firsts
  pub ceilings : cs' ≡ a.ceilings
  pub marks : ms' ≡ a.marks
