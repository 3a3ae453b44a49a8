-- Which block of each list an interval meets, by its number. Assumes nothing.
use Rattle.std.specs.Prelude.{ℕ, zero, suc, ◌≤◌, ◌<◌, ◌≡◌, cond, ◌&&◌, List, ltb, leb, length, get_or}
use Rattle.model.specs.Limits.{max_terms}
use Rattle.rank.specs.Match.{inside}
use Rattle.opening.specs.Table.{gap}

-- of n blocks from number f on, by their least and greatest docids: the one that a docid meets, `gap` where it meets none
abbrev pub met_from : (lo hi : ℕ → ℕ) → (n f d : ℕ) → ℕ
met_from lo hi zero f d = gap
met_from lo hi (suc n) f d = cond (inside (lo f) (hi f) d) f (met_from lo hi n (suc f) d)

-- the first block from number `from` on, before `end`, that does not end below d
pub record Reaches (his : List ℕ) (from end d r : ℕ) : Type 0 where
  pub on : from ≤ r
  pub upto : r ≤ end
  pub below : (i : ℕ) → from ≤ i → i < r → get_or his i 0 < d
  pub ends : r < end → d ≤ get_or his r 0

-- the block there, if it does not begin above d
abbrev pub met_at : (los : List ℕ) (end d j : ℕ) → ℕ
met_at los end d j = cond (ltb j end && leb (get_or los j 0) d) j gap

-- each list's place lies before its end, which lies in the runs
pub record Placed (los his ends ats : List ℕ) : Type 0 where
  pub lists : length ends ≡ max_terms
  pub places : length ats ≡ max_terms
  pub before : (t : ℕ) → t < max_terms → get_or ats t 0 ≤ get_or ends t 0
  pub least : (t : ℕ) → t < max_terms → get_or ends t 0 ≤ length los
  pub greatest : (t : ℕ) → t < max_terms → get_or ends t 0 ≤ length his

-- list t has moved from `ats` to `ats'`, and meets `mets'`
pub record Moved (los his ends ats ats' mets' : List ℕ) (d t : ℕ) : Type 0 where
  pub reached : Reaches his (get_or ats t 0) (get_or ends t 0) d (get_or ats' t 0)
  pub met : get_or mets' t 0 ≡ met_at los (get_or ends t 0) d (get_or ats' t 0)

-- all lists have
pub record AllMoved (los his ends ats ats' mets' : List ℕ) (d : ℕ) : Type 0 where
  pub places : length ats' ≡ max_terms
  pub blocks : length mets' ≡ max_terms
  pub each : (t : ℕ) → t < max_terms → Moved los his ends ats ats' mets' d t
