-- The book's three runs. Assumes nothing.
use Rattle.std.specs.Prelude.{ℕ, ◌-◌, ◌≤◌, ◌<◌, ◌≡◌, Bool, true, false, ◌&&◌, List, map, ltb, length, get_or, replicate}
use Rattle.std.proofs.lemmas.List.Edits.{sets}
use Rattle.model.specs.Limits.{max_terms}
use Rattle.model.specs.Runs.{Asc}
use Rattle.rank.specs.Rank.{beats}
use Rattle.prune.specs.Cut.{ceiling_at}
use Rattle.opening.specs.Table.{lists_in, sum_block, Ends}

-- the ceilings of the intervals that begin at `starts`
abbrev pub ceilings_in : (los his tops ends weights starts : List ℕ) → List ℕ
ceilings_in los his tops ends weights starts = map (ceiling_at (lists_in (sum_block los his tops) ends weights)) starts

-- what raising them asks: the first docids rise, there is a 0 for each ceiling and a weight for each list, and the lists are as they were walked
pub record Raisable (los his tops ends weights starts out : List ℕ) : Type 0 where
  pub rises : Asc 0 starts
  pub room : length starts ≤ length out
  pub zeros : out ≡ replicate (length out) 0
  pub few : length ends ≤ max_terms
  pub weighted : length ends ≤ length weights
  pub least : (t : ℕ) → t < length ends → get_or ends t 0 ≤ length los
  pub greatest : (t : ℕ) → t < length ends → get_or ends t 0 ≤ length his
  pub top : (t : ℕ) → t < length ends → get_or ends t 0 ≤ length tops
  pub seen : (t : ℕ) → t < length ends → Ends (sum_block los his tops) ends (length los) t

-- whether a ceiling opens its interval, by the kth score
abbrev pub opens_by : (kth ceiling : ℕ) → Bool
opens_by kth ceiling = ltb 0 ceiling && beats ceiling kth

-- the intervals from i on up to r are skipped, each with its mark; the one at r is opened, or there is none
pub record Skips (ceilings : List ℕ) (n kth i : ℕ) (marks marks' : List ℕ) (r : ℕ) : Type 0 where
  pub on : i ≤ r
  pub upto : r ≤ n
  pub shut : (j : ℕ) → i ≤ j → j < r → opens_by kth (get_or ceilings j 0) ≡ false
  pub opened : r < n → opens_by kth (get_or ceilings r 0) ≡ true
  pub marked : marks' ≡ sets marks i (replicate (r - i) 0)
