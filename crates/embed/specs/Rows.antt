-- "Hits are written into lent rows, a docid beside its score": here two runs of one row a hit. Assumes nothing.
use Rattle.std.specs.Prelude.{ℕ, ◌≤◌, List, length, Result, Ok, Err}
use Rattle.model.specs.Limits.{max_k}
use Rattle.model.specs.Outcome.{Outcome, refused, done}
use Rattle.model.specs.Refusal.{number}
use Rattle.model.specs.declared.refusal.Refusal.{Refusal}
use Rattle.model.specs.Post.{docs, scores}
use Rattle.model.specs.Runs.{Holds}
use Rattle.list.specs.Read.{docids_of, scores_of}
use Rattle.rank.specs.Rank.{Hit}
use Rattle.rank.specs.Keep.{kept_of}
use Rattle.rank.specs.declared.keep.Kept.{Kept}
use Rattle.embed.specs.Report.{Fills}

-- there is a row for each hit of a keeper
pub record Fit (t : Kept) (ds ss : List ℕ) : Type 0 where
  pub few : t.n ≤ max_k
  pub docids : t.n ≤ length ds
  pub scored : t.n ≤ length ss

-- a refusal needs none
abbrev pub Fits : Result Kept Refusal → (ds ss : List ℕ) → Type 0
Fits (Ok t) ds ss = Fit t ds ss
Fits (Err r) ds ss = Unit {0}

-- what a ranker's answer is in the paper: its keeper's hits, or the refusal's number and offset
abbrev pub ranking : Result Kept Refusal → Outcome (List Hit)
ranking (Ok t) = done (kept_of t)
ranking (Err r) = refused (number r.fault) r.offset

-- r hits stand in front, "rows past the last hit are not touched"
pub record Rows (hs : List Hit) (ds ss ds' ss' : List ℕ) (r : ℕ) : Type 0 where
  pub docids : Holds ds (docs hs) ds' r
  pub scored : Holds ss (scores hs) ss' r

-- the contract of a ranking: what it returns and stores, and both runs that were lent for its hits
pub record Hits (o : Outcome (List Hit)) (ds ss ds' ss' : List ℕ) (number value : ℕ) : Type 0 where
  pub docids : Fills (docids_of o) ds ds' number value
  pub scored : Fills (scores_of o) ss ss' number value
