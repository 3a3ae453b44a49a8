-- What the search program prints for its input. "The program reads standard input: fields tagged 20 or 21, while whole, are the query; the rest is the
-- shelf. It runs the pruned search." Assumes nothing.
use Rattle.std.specs.Prelude.{ℕ, ◌≤◌, ◌≡◌, cond, List, map, ltb, length, take, drop, Result, Ok, Err}
use Rattle.model.specs.Limits.{max_docid, max_k}
use Rattle.model.specs.Outcome.{Outcome, refused, done, and_then}
use Rattle.model.specs.Refusal.{number}
use Rattle.rank.specs.Match.{any_list}
use Rattle.rank.specs.Keep.{kept_of}
use Rattle.prune.specs.Cut.{starts, ceiling_at, block_count}
use Rattle.prune.specs.Prune.{never, pruned, book, blocks_opened}
use Rattle.pruned.specs.Pruned.{Sought, sought}
use Rattle.pruned.specs.declared.search.Pruned.{Pruned}
use Rattle.intervals.specs.declared.stopped.Stopped.{Stopped}
use Rattle.lines.specs.Text.{Shown, shown, text}
use Rattle.lines.specs.Book.{Book, max_intervals, max_output}
use Rattle.lines.specs.Split.{query_size}

-- what a search shows: its hits, its book, the blocks opened and the blocks in all; a search that stops at a wrong body shows its refusal
abbrev pub shown_of : Outcome Sought → Outcome Shown
shown_of (refused n at) = refused n at
shown_of (done x) = and_then (pruned any_list never max_docid x.k x.lists) (λ hs.
    done (shown hs (starts max_docid x.lists) (map (ceiling_at x.lists) (starts max_docid x.lists)) (book any_list never max_docid x.k x.lists)
    (blocks_opened any_list never max_docid x.k x.lists) (block_count x.lists)))

-- the pruned search of a query on a shelf, with room for every answer: 100 hits and 1,025 intervals
unfoldable pub search_shown : (q s : List ℕ) → Outcome Shown
search_shown q s = shown_of (sought q s max_k max_intervals max_intervals max_intervals)

-- "13: program input over 65,536 bytes, before all else"
abbrev pub max_input : ℕ
max_input = 65536

-- "fields tagged 20 or 21, while whole, are the query; the rest is the shelf"
abbrev pub query_part : List ℕ → List ℕ
query_part input = take (query_size input) input

abbrev pub shelf_part : List ℕ → List ℕ
shelf_part input = drop (query_size input) input

-- the whole output
unfoldable pub reported : (input : List ℕ) → List ℕ
reported input = text (cond (ltb max_input (length input)) (refused 13 0) (search_shown (query_part input) (shelf_part input)))

-- ---- the private contracts

-- the lent runs have room for every book and every output
pub record Room (fs cs ms out : List ℕ) : Type 0 where
  pub firsts : length fs ≡ max_intervals
  pub ceilings : length cs ≡ max_intervals
  pub marks : length ms ≡ max_intervals
  pub output : max_output ≤ length out

-- the search's hits and the first rows of the book's runs
abbrev pub rows_of : Pruned → (fs cs ms : List ℕ) → Shown
rows_of r fs cs ms = shown (kept_of r.kept) (take r.intervals fs) (take r.intervals cs) (take r.intervals ms) r.opened r.blocks

-- what a search has answered
abbrev pub told : Result Pruned Stopped → (fs cs ms : List ℕ) → Outcome Shown
told (Err r) fs cs ms = refused (number r.refusal.fault) r.refusal.offset
told (Ok r) fs cs ms = done (rows_of r fs cs ms)

-- what printing asks of a search that is done
pub record Printed (r : Pruned) (fs cs ms : List ℕ) : Type 0 where
  pub kept : r.kept.n ≤ max_k
  pub rows : r.intervals ≤ max_intervals
  pub firsts : r.intervals ≤ length fs
  pub ceilings : r.intervals ≤ length cs
  pub marks : r.intervals ≤ length ms
  pub book : Book (take r.intervals fs) (take r.intervals cs) (take r.intervals ms)

abbrev pub Printable : Result Pruned Stopped → (fs cs ms : List ℕ) → Type 0
Printable (Err r) fs cs ms = Unit {0}
Printable (Ok r) fs cs ms = Printed r fs cs ms
