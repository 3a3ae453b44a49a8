-- What a ranker leaves in the outputs that are lent to it: "Hits are written into lent rows, a docid beside its score; rows past the last hit are not touched, nor
-- is any other output past its end." Assumes nothing.
use Rattle.std.specs.Prelude.{ℕ, ◌≤◌, min, ◌≡◌, List, ◌++◌, map, length, drop}
use Rattle.model.specs.Outcome.{Outcome}
use Rattle.model.specs.Post.{docs, scores}
use Rattle.list.specs.Answer.{after}
use Rattle.list.specs.Read.{docids_of, scores_of}
use Rattle.rank.specs.Rank.{Hit}
use Rattle.lent.specs.Rows.{row_of, with_hits, hits_of}
use Rattle.lent.specs.declared.rows.Hit.{Hit as Row}

-- rows for hits as the two public forms take them: structs of a docid beside its score (crate lent), or a run of docids beside a run of scores (crate embed)
pub data Lent : Type 0 where
  rows : List Row → Lent
  runs : (docids scores : List ℕ) → Lent

-- how many there are
abbrev pub rows_in : Lent → ℕ
rows_in (rows rs) = length rs
rows_in (runs ds ss) = min (length ds) (length ss)

-- what they hold after a call with this outcome, by the contracts of both forms
abbrev pub left : Outcome (List Hit) → Lent → Lent
left o (rows rs) = rows (with_hits (hits_of o) rs)
left o (runs ds ss) = runs (after (docids_of o) ds) (after (scores_of o) ss)

-- the hits, and then the rows as they were
abbrev pub hits_then : List Hit → Lent → Lent
hits_then hs (rows rs) = rows (map row_of hs ++ drop (length hs) rs)
hits_then hs (runs ds ss) = runs (docs hs ++ drop (length hs) ds) (scores hs ++ drop (length hs) ss)

pub record Filled (hs : List Hit) (old new : Lent) : Type 0 where
  pub fits : length hs ≤ rows_in old
  pub holds : new ≡ hits_then hs old

-- a run of the book of which n rows were filled: as long as it was, and the rows past them as they were
pub record Past (n : ℕ) (old new : List ℕ) : Type 0 where
  pub long : length new ≡ length old
  pub past : drop n new ≡ drop n old
