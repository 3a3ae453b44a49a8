-- The search over intervals, out of the numbered blocks. Assumes nothing.
use Rattle.std.specs.Prelude.{ℕ, ◌+◌, ◌-◌, ◌*◌, ◌≤◌, ◌<◌, ◌≡◌, cond, List, [], map, ◌++◌, ltb, length, get_or, drop, Result, Ok, Err}
use Rattle.model.specs.Limits.{max_docid, max_terms, max_k}
use Rattle.model.specs.Outcome.{refused, done}
use Rattle.rank.specs.Match.{any_list}
use Rattle.rank.specs.Keep.{kept_of, keeper}
use Rattle.prune.specs.Cut.{ceiling_at}
use Rattle.prune.specs.Cut as cut
use Rattle.prune.specs.Prune.{never, pruned, book, blocks_opened}
use Rattle.scan.specs.Heads.{blank}
use Rattle.scan.specs.Load.{head_of}
use Rattle.scan.specs.declared.head.Head.{Head}
use Rattle.opening.specs.Table.{gap, from_of, block_in, lists_in, Ends}
use Rattle.opening.specs.Enter.{Loadable}
use Rattle.intervals.specs.declared.run.Run.{Run}

-- the last docid of an interval: the one before the next interval's first
abbrev pub last_at : (lim : ℕ) (starts : List ℕ) (i : ℕ) → ℕ
last_at lim starts i = cond (ltb (i + 1) (length starts)) (get_or starts (i + 1) 0 - 1) lim

-- what the search asks: the lists are as they were walked, with their intervals and ceilings; a k in range; a mark for each interval
pub record Runnable (shelf ends los his tops counts bodies weights : List ℕ) (k : ℕ) (starts ceilings marks : List ℕ) : Type 0 where
  pub lists : length ends ≡ max_terms
  pub weighted : length weights ≡ max_terms
  pub seen : (t : ℕ) → t < max_terms → Ends (block_in shelf los his tops counts bodies) ends gap t
  pub least_in : (t : ℕ) → t < max_terms → get_or ends t 0 ≤ length los
  pub greatest_in : (t : ℕ) → t < max_terms → get_or ends t 0 ≤ length his
  pub load : (t i : ℕ) → t < max_terms → i < get_or ends t 0 → Loadable shelf los his tops counts bodies i
  pub first : starts ≡ cut.starts max_docid (lists_in (block_in shelf los his tops counts bodies) ends weights)
  pub ceiled : ceilings ≡ map (ceiling_at (lists_in (block_in shelf los his tops counts bodies) ends weights)) starts
  pub least : 0 < k
  pub most : k ≤ max_k
  pub room : length starts ≤ length marks
  pub few : length starts ≤ 2 * gap + 1

-- all intervals were gone through: the hits, the marks of the book, and how many blocks were opened
pub record Ended (shelf ends los his tops counts bodies weights : List ℕ) (k : ℕ) (starts marks marks' : List ℕ) (r : Run) : Type 0 where
  pub found : done (kept_of r.kept) ≡ pruned any_list never max_docid k (lists_in (block_in shelf los his tops counts bodies) ends weights)
  pub marked : marks' ≡ book any_list never max_docid k (lists_in (block_in shelf los his tops counts bodies) ends weights) ++ drop (length starts) marks
  pub opened : r.opened ≡ blocks_opened any_list never max_docid k (lists_in (block_in shelf los his tops counts bodies) ends weights)
  pub few : r.kept.n ≤ k
  pub whole : r.kept ≡ keeper (kept_of r.kept)

-- one stopped the search: "8: wrong body: its tag"
pub record Halted (shelf ends los his tops counts bodies weights : List ℕ) (k : ℕ) (starts marks marks' : List ℕ) (at : ℕ) : Type 0 where
  pub found : refused 8 at ≡ pruned any_list never max_docid k (lists_in (block_in shelf los his tops counts bodies) ends weights)
  pub marked : marks' ≡ book any_list never max_docid k (lists_in (block_in shelf los his tops counts bodies) ends weights) ++ drop (length starts) marks

abbrev pub Runs : (shelf ends los his tops counts bodies weights : List ℕ) (k : ℕ) (starts marks marks' : List ℕ) → Result Run ℕ → Type 0
Runs shelf ends los his tops counts bodies weights k starts marks marks' (Ok r) = Ended shelf ends los his tops counts bodies weights k starts marks marks' r
Runs shelf ends los his tops counts bodies weights k starts marks marks' (Err at) = Halted shelf ends los his tops counts bodies weights k starts marks marks' at

-- the first n lists' places are before their first blocks
pub record Begins (ends ats : List ℕ) (n : ℕ) : Type 0 where
  pub long : length ats ≡ max_terms
  pub each : (t : ℕ) → t < n → get_or ats t 0 ≡ from_of ends t

-- the first n lists are at their ends
pub record Idles (weights : List ℕ) (heads : List Head) (n : ℕ) : Type 0 where
  pub long : length heads ≡ max_terms
  pub each : (t : ℕ) → t < n → get_or heads t blank ≡ head_of (get_or weights t 0) t []
