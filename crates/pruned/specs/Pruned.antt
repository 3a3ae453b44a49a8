-- What the pruned ranker answers, and what the book's runs then hold, for every input. Order: "1, 2, 3, 4, 5, then 6/7, 9, 8". Assumes nothing.
use Rattle.std.specs.Prelude.{ℕ, ◌≤◌, ◌≡◌, cond, List, map, ◌++◌, leb, length, drop, Result, Ok, Err}
use Rattle.model.specs.Limits.{max_docid, max_terms, max_k}
use Rattle.model.specs.Outcome.{Outcome, refused, done, and_then}
use Rattle.query.specs.Query.{asked}
use Rattle.shelf.specs.Walk.{walk}
use Rattle.lookup.specs.Table.{Gatherable}
use Rattle.rank.specs.Rank.{Hit}
use Rattle.rank.specs.Match.{any_list}
use Rattle.rank.specs.Keep.{kept_of, keeper}
use Rattle.prune.specs.Cut.{Listing, starts, ceiling_at, block_count}
use Rattle.prune.specs.Prune.{never, pruned, book, blocks_opened}
use Rattle.exhaustive.specs.Lists.{listings_of}
use Rattle.exhaustive.specs.Merge.{Mergeable}
use Rattle.model.specs.Refusal.{number}
use Rattle.intervals.specs.declared.stopped.Stopped.{Stopped}
use Rattle.intervals.specs.Blocks.{room_for}
use Rattle.pruned.specs.declared.search.Pruned.{Pruned}

-- ---- what is searched, or the refusal before the search

pub record Sought : Type 0 where
  pub k : ℕ
  pub lists : List Listing

-- "Number 9 is given exactly when hit rows are fewer than k, a book run is shorter than the interval count"
abbrev pub fitting : (k : ℕ) (lists : List Listing) (a b c : ℕ) → Outcome Sought
fitting k lists a b c = cond (room_for (length (starts max_docid lists)) a b c) (done (record { k = k; lists = lists })) (refused 9 0)

-- by the query, the shelf, the number of hit rows and the lengths of the book's three runs
abbrev pub sought : (q s : List ℕ) (rows a b c : ℕ) → Outcome Sought
sought q s rows a b c =
    and_then (asked q) (λ x.
    and_then (walk s) (λ ls.
    cond (leb x.k rows) (fitting x.k (listings_of x.terms ls) a b c) (refused 9 0)))

-- ---- the answer

-- the hits or the refusal; the counts of intervals, of blocks met by an opened one, of blocks in the query's lists; what the book's runs then hold
pub record Answer : Type 0 where
  pub outcome : Outcome (List Hit)
  pub intervals : ℕ
  pub opened : ℕ
  pub blocks : ℕ
  pub firsts : List ℕ
  pub ceilings : List ℕ
  pub marks : List ℕ

-- a run with new rows at its front: "nor is any other output touched past its end"
abbrev pub front : (rows old : List ℕ) → List ℕ
front rows old = rows ++ drop (length rows) old

-- "Counts in a refusal are 0"
abbrev pub unless_refused : Outcome (List Hit) → ℕ → ℕ
unless_refused (refused n at) count = 0
unless_refused (done hs) count = count

-- "The book has one row per interval in three lent runs: first docid, ceiling, mark." "Counts in a refusal are 0 and outputs are untouched, except 8
-- in a pruned search: the interval count is returned, the book is filled with marks 2 and 3 where they apply"
abbrev pub answer : Outcome Sought → (fs cs ms : List ℕ) → Answer
answer (refused n at) fs cs ms = record { outcome = refused n at; intervals = 0; opened = 0; blocks = 0; firsts = fs; ceilings = cs; marks = ms }
answer (done x) fs cs ms = record {
  outcome = pruned any_list never max_docid x.k x.lists;
  intervals = length (starts max_docid x.lists);
  opened = unless_refused (pruned any_list never max_docid x.k x.lists) (blocks_opened any_list never max_docid x.k x.lists);
  blocks = unless_refused (pruned any_list never max_docid x.k x.lists) (block_count x.lists);
  firsts = front (starts max_docid x.lists) fs;
  ceilings = front (map (ceiling_at x.lists) (starts max_docid x.lists)) cs;
  marks = front (book any_list never max_docid x.k x.lists) ms;
}

unfoldable pub searched : (q s : List ℕ) (rows : ℕ) (fs cs ms : List ℕ) → Answer
searched q s rows fs cs ms = answer (sought q s rows (length fs) (length cs) (length ms)) fs cs ms

-- ---- the contracts

-- the book as it is handed back: how many intervals it shows, and what its runs hold
pub record BookIs (a : Answer) (n : ℕ) (fs' cs' ms' : List ℕ) : Type 0 where
  pub intervals : n ≡ a.intervals
  pub firsts : fs' ≡ a.firsts
  pub ceilings : cs' ≡ a.ceilings
  pub marks : ms' ≡ a.marks

-- a search that is done
pub record Ended (a : Answer) (fs' cs' ms' : List ℕ) (r : Pruned) : Type 0 where
  pub outcome : done (kept_of r.kept) ≡ a.outcome
  -- the keeper's count is the number of hits
  pub few : r.kept.n ≤ max_k
  -- past the hits its rows are zeros
  pub whole : r.kept ≡ keeper (kept_of r.kept)
  pub opened : r.opened ≡ a.opened
  pub blocks : r.blocks ≡ a.blocks
  pub book : BookIs a r.intervals fs' cs' ms'

-- one that is refused: "Counts in a refusal are 0"
pub record Refused (a : Answer) (fs' cs' ms' : List ℕ) (r : Stopped) : Type 0 where
  pub outcome : refused (number r.refusal.fault) r.refusal.offset ≡ a.outcome
  pub opened : a.opened ≡ 0
  pub blocks : a.blocks ≡ 0
  pub book : BookIs a r.intervals fs' cs' ms'

-- what a call hands back is the answer
abbrev pub Answers : Answer → (fs' cs' ms' : List ℕ) → Result Pruned Stopped → Type 0
Answers a fs' cs' ms' (Ok r) = Ended a fs' cs' ms' r
Answers a fs' cs' ms' (Err r) = Refused a fs' cs' ms' r

-- the lists were walked and may be gathered, and k is in range
pub record Searchable (s ats counts : List ℕ) (k : ℕ) : Type 0 where
  pub walked : Mergeable s ats counts k
  pub ready : Gatherable s ats counts max_terms
