-- The pruned search as a caller with rows gets it: the book beside the hits. Assumes nothing.
use Rattle.std.specs.Prelude.{ℕ, ◌≡◌, List}
use Rattle.pruned.specs.Pruned.{Answer}
use Rattle.lent.specs.Rows.{Rowed}
use Rattle.lent.specs.declared.rows.Hit.{Hit}
use Rattle.lent.specs.declared.rows.SearchedRows.{SearchedRows}

-- the counts, and what the book's three runs then hold
pub record Booked (a : Answer) (fs' cs' ms' : List ℕ) (r : SearchedRows) : Type 0 where
  pub intervals : r.intervals ≡ a.intervals
  pub opened : r.opened ≡ a.opened
  pub blocks : r.blocks ≡ a.blocks
  pub firsts : fs' ≡ a.firsts
  pub ceilings : cs' ≡ a.ceilings
  pub marks : ms' ≡ a.marks

pub record Searched (a : Answer) (old new : List Hit) (fs' cs' ms' : List ℕ) (r : SearchedRows) : Type 0 where
  pub rowed : Rowed a.outcome r.number r.offset r.hits old new
  pub booked : Booked a fs' cs' ms' r
