-- The search over gathered blocks: the book's rows, then the intervals. Assumes nothing.
use Rattle.std.specs.Prelude.{ℕ, ◌≤◌, ◌<◌, ◌≡◌, Bool, true, false, ◌&&◌, List, map, ◌++◌, leb, length, get_or, drop, Result, Ok, Err}
use Rattle.model.specs.Limits.{max_docid, max_terms, max_k}
use Rattle.model.specs.Refusal.{refusal}
use Rattle.model.specs.declared.refusal.Fault.TheVariants as fault
use Rattle.prune.specs.Cut.{ceiling_at, starts}
use Rattle.opening.specs.Table.{gap, block_in, lists_in, Ends}
use Rattle.opening.specs.Enter.{Loadable}
use Rattle.intervals.specs.Stopped.{early}
use Rattle.intervals.specs.Run.{Ended, Halted}
use Rattle.intervals.specs.declared.stopped.Stopped.{Stopped}
use Rattle.intervals.specs.declared.blocks.Booked.{Booked}

-- the blocks as the walk has seen to them, and a k in range
pub record Walked (shelf ends los his tops counts bodies weights : List ℕ) (k : ℕ) : Type 0 where
  pub lists : length ends ≡ max_terms
  pub weighted : length weights ≡ max_terms
  pub short : length los ≤ gap
  pub seen : (t : ℕ) → t < max_terms → Ends (block_in shelf los his tops counts bodies) ends gap t
  pub least_in : (t : ℕ) → t < max_terms → get_or ends t 0 ≤ length los
  pub greatest_in : (t : ℕ) → t < max_terms → get_or ends t 0 ≤ length his
  pub top_in : (t : ℕ) → t < max_terms → get_or ends t 0 ≤ length tops
  pub load : (t i : ℕ) → t < max_terms → i < get_or ends t 0 → Loadable shelf los his tops counts bodies i
  pub least : 0 < k
  pub most : k ≤ max_k

-- "a book run is shorter than the interval count"
abbrev pub room_for : (n a b c : ℕ) → Bool
room_for n a b c = leb n a && (leb n b && leb n c)

-- the search, whatever it found, was over this many intervals
abbrev pub Over : (shelf ends los his tops counts bodies weights : List ℕ) (k : ℕ) (starts marks marks' : List ℕ) → Result Booked Stopped → Type 0
Over shelf ends los his tops counts bodies weights k starts marks marks' (Ok r) = (r.intervals ≡ length starts) × Ended shelf ends los his tops counts bodies weights k starts marks marks' r.run
Over shelf ends los his tops counts bodies weights k starts marks marks' (Err r) = (at : ℕ) × (r ≡ record { refusal = refusal fault.Body at; intervals = length starts }) × Halted shelf ends los his tops counts bodies weights k starts marks marks' at

-- the book is filled at the front of its runs
pub record Fills (shelf ends los his tops counts bodies weights : List ℕ) (k : ℕ) (fs cs ms fs' cs' ms' : List ℕ) (r : Result Booked Stopped) : Type 0 where
  pub firsts : fs' ≡ starts max_docid (lists_in (block_in shelf los his tops counts bodies) ends weights) ++ drop (length (starts max_docid (lists_in (block_in shelf los his tops counts bodies) ends weights))) fs
  pub ceilings : cs' ≡ map (ceiling_at (lists_in (block_in shelf los his tops counts bodies) ends weights)) (starts max_docid (lists_in (block_in shelf los his tops counts bodies) ends weights)) ++ drop (length (starts max_docid (lists_in (block_in shelf los his tops counts bodies) ends weights))) cs
  pub run : Over shelf ends los his tops counts bodies weights k (starts max_docid (lists_in (block_in shelf los his tops counts bodies) ends weights)) ms ms' r

-- or, where there is no room, nothing is touched and nothing was searched
pub record Untouched (fs cs ms fs' cs' ms' : List ℕ) (r : Result Booked Stopped) : Type 0 where
  pub refused : r ≡ Err (early (refusal fault.Room 0))
  pub firsts : fs' ≡ fs
  pub ceilings : cs' ≡ cs
  pub marks : ms' ≡ ms

pub record Books (shelf ends los his tops counts bodies weights : List ℕ) (k : ℕ) (fs cs ms fs' cs' ms' : List ℕ) (r : Result Booked Stopped) : Type 0 where
  pub filled : room_for (length (starts max_docid (lists_in (block_in shelf los his tops counts bodies) ends weights))) (length fs) (length cs) (length ms) ≡ true
      → Fills shelf ends los his tops counts bodies weights k fs cs ms fs' cs' ms' r
  pub refused : room_for (length (starts max_docid (lists_in (block_in shelf los his tops counts bodies) ends weights))) (length fs) (length cs) (length ms) ≡ false
      → Untouched fs cs ms fs' cs' ms' r
