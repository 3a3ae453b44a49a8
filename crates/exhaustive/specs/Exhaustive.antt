-- What the exhaustive ranker answers. Order: "1, 2, 3, 4, 5, then 6/7, 9, 8". Assumes nothing.
use Rattle.std.specs.Prelude.{ℕ, ◌≤◌, ◌≡◌, cond, List, leb, Result, Ok, Err}
use Rattle.model.specs.Limits.{max_k}
use Rattle.model.specs.Outcome.{Outcome, refused, done, and_then}
use Rattle.query.specs.Query.{asked}
use Rattle.shelf.specs.Walk.{walk}
use Rattle.rank.specs.Rank.{Hit}
use Rattle.rank.specs.Match.{any_list}
use Rattle.rank.specs.Keep.{kept_of, keeper}
use Rattle.rank.specs.declared.keep.Kept.{Kept}
use Rattle.model.specs.Refusal.{number}
use Rattle.model.specs.declared.refusal.Refusal.{Refusal}
use Rattle.prune.specs.Prune.{exhaustive}
use Rattle.exhaustive.specs.Lists.{listings_of}

-- 1 to 5 by the query, 6/7 by the walk, "9: lent output too short", which is "hit rows are fewer than k", 8 by the bodies of the query's lists
unfoldable pub rank_all : (q s : List ℕ) (rows : ℕ) → Outcome (List Hit)
rank_all q s rows =
    and_then (asked q) (λ x.
    and_then (walk s) (λ ls.
    cond (leb x.k rows) (exhaustive any_list x.k (listings_of x.terms ls)) (refused 9 0)))

-- a ranking handed on: the keeper holds its hits
pub record Ranked (o : Outcome (List Hit)) (kept : Kept) : Type 0 where
  pub answer : done (kept_of kept) ≡ o
  -- the keeper's count is the number of hits
  pub few : kept.n ≤ max_k
  -- past the hits its rows are zeros
  pub whole : kept ≡ keeper (kept_of kept)

-- the answer: the hits, or the refusal's number and offset
abbrev pub Answers : Outcome (List Hit) → Result Kept Refusal → Type 0
Answers o (Ok kept) = Ranked o kept
Answers o (Err r) = refused (number r.fault) r.offset ≡ o
