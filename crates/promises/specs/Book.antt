-- The interval book of a search: "one row per interval", when a row's interval is skipped, and how far a search came that stops. Assumes nothing.
use Rattle.std.specs.Prelude.{ℕ, suc, ◌+◌, ◌-◌, ◌≤◌, ◌<◌, ◌≡◌, true, cond, ◌⊎◌, ◌↔◌, List, [], ◌∷◌, ◌++◌, map, eqb, length, take, get_or, replicate}
use Rattle.std.proofs.Math.Option.{Option, none, some}
use Rattle.model.specs.Outcome.{done}
use Rattle.model.specs.Runs.{All}
use Rattle.shelf.specs.Walk as shelf
use Rattle.shelf.specs.Walk.{walk}
use Rattle.query.specs.Query.{Question, asked}
use Rattle.rank.specs.Rank.{Hit, sort, ranking, kth}
use Rattle.rank.specs.Match.{any_list, hits_of, within}
use Rattle.prune.specs.Cut.{Listing, Interval, intervals_from, starts, intervals, lies, how_many, sees, ceiling_at, block_count}
use Rattle.prune.specs.Prune.{fault_at, terms_at, chosen, count_met}
use Rattle.pruned.specs.Pruned.{Answer, front}
use Rattle.lines.specs.Text.{hit_lines, interval_lines, block_line}
use Rattle.promises.specs.Served.{lists_for, interval_count}

-- row i of the book's three runs
abbrev pub first : Answer → ℕ → ℕ
first a i = get_or a.firsts i 0

abbrev pub ceiling : Answer → ℕ → ℕ
ceiling a i = get_or a.ceilings i 0

abbrev pub mark : Answer → ℕ → ℕ
mark a i = get_or a.marks i 0

-- the intervals that the book shows: each from its first docid up to the next one's, the last up to 16,777,215
abbrev pub between : List ℕ → List Interval
between [] = []
between (f ∷ fs) = intervals_from 16777215 f fs

abbrev pub shown : Answer → List Interval
shown a = between (take a.intervals a.firsts)

-- "sheets with lower numbers" than an interval's first, of those that match
abbrev pub below : ℕ → List Hit → List Hit
below first hits = within 1 (first - 1) hits

-- "its ceiling is zero or k sheets with lower numbers match and the kth best of them scores at least the ceiling"
abbrev pub SkipRule : (k ceiling : ℕ) (lower : List Hit) → Type 0
SkipRule k ceiling lower = (ceiling ≡ 0) ⊎ ((k ≤ length lower) × (ceiling ≤ kth k (sort lower)))

-- what demand 3 says of the book of a search for k sheets among those that match
pub record Booked (k : ℕ) (hits : List Hit) (a : Answer) : Type 0 where
  -- "every sheet number is in exactly one interval"
  pub partition : (d : ℕ) → 1 ≤ d → d ≤ 16777215 → how_many d (shown a) ≡ 1
  -- "and an interval is skipped exactly when its ceiling is zero or k sheets with lower numbers match and the kth best of them scores at least the ceiling"
  pub skipped : (i : ℕ) → i < a.intervals → (mark a i ≡ 0) ↔ SkipRule k (ceiling a i) (below (first a i) hits)
  -- the others are opened
  pub opened : (i : ℕ) → i < a.intervals → (mark a i ≡ 0) ⊎ (mark a i ≡ 1)

-- what the paper says of the intervals of some lists, on which sheets score as `score` says
pub record CutBy (ls : List Listing) (score : ℕ → ℕ) (a : Answer) : Type 0 where
  -- "There are at most 1,025 intervals."
  pub few : a.intervals ≤ 1025
  -- "This is the smallest partition in which each docid of an interval meets the same block or gap in every list."
  pub same : All (λ (v : Interval). (d : ℕ) → lies v d ≡ true → sees ls d ≡ sees ls v.first) (shown a)
  pub smallest : (d e : ℕ) → d ≤ e → e ≤ 16777215 → ((z : ℕ) → d ≤ z → z ≤ e → sees ls z ≡ sees ls d) → All (λ (v : Interval). lies v d ≡ true → lies v e ≡ true) (shown a)
  pub neighbours : (i : ℕ) → i + 1 < a.intervals → sees ls (first a i) ≡ sees ls (first a (suc i)) → ⊥
  -- "The ceiling is the sum of weight times greatest score over the blocks met."
  pub ceilings : (i : ℕ) → i < a.intervals → ceiling a i ≡ ceiling_at ls (first a i)
  -- no score is above the ceiling of its interval
  pub under : All (λ (v : Interval). (d : ℕ) → lies v d ≡ true → score d ≤ ceiling_at ls v.first) (shown a)
  -- "the number of blocks met by an opened interval (each block once), the number of blocks in the query's lists"
  pub opened : a.opened ≡ count_met (chosen (take a.intervals a.marks) (take a.intervals a.firsts)) ls
  pub blocks : a.blocks ≡ block_count ls

-- ---- the rule by which intervals are opened, on any shelf

-- what the rule goes by, interval by interval: its ceiling; where the first wrong body that it meets has its tag; the sheets that match in it, of the blocks met
pub record Met : Type 0 where
  pub ceilings : List ℕ
  pub faults : List (Option ℕ)
  pub sheets : List (List Hit)

abbrev pub sheets_in : List Listing → Interval → List Hit
sheets_in ls v = within v.first v.last (hits_of any_list (terms_at ls v.first))

abbrev pub met_on : List Listing → Met
met_on ls = record { ceilings = map (ceiling_at ls) (starts 16777215 ls); faults = map (fault_at ls) (starts 16777215 ls); sheets = map (sheets_in ls) (intervals 16777215 ls) }

-- "found so far": the sheets of the intervals that these marks say were opened
abbrev pub found : (marks : List ℕ) (sheets : List (List Hit)) → List Hit
found [] hss = []
found (m ∷ ms) [] = []
found (m ∷ ms) (hs ∷ hss) = cond (eqb m 1) (hs ++ found ms hss) (found ms hss)

-- "One is opened when its ceiling is above 0 and either fewer than k documents were found before it or its ceiling exceeds the kth best score so far;"
abbrev pub OpenRule : (k ceiling : ℕ) (found : List Hit) → Type 0
OpenRule k ceiling found = (0 < ceiling) × ((length found < k) ⊎ (kth k (sort found) < ceiling))

-- "otherwise it is skipped.": an interval is passed by the mark 1 where the rule opens it and no body in it is wrong, by the mark 0 where the rule does not
abbrev pub Passed : (k ceiling : ℕ) (fault : Option ℕ) (found : List Hit) (mark : ℕ) → Type 0
Passed k ceiling fault found mark = ((mark ≡ 1) × OpenRule k ceiling found × (fault ≡ none)) ⊎ ((mark ≡ 0) × (OpenRule k ceiling found → ⊥))

-- the intervals that these marks stand for were passed
abbrev pub ByRule : (k : ℕ) → Met → (marks : List ℕ) → Type 0
ByRule k m marks = (i : ℕ) → i < length marks → Passed k (get_or m.ceilings i 0) (get_or m.faults i none) (found (take i marks) m.sheets) (get_or marks i 0)

-- "the interval book shows how far the search came": every interval before the stop was passed, the rule opened the one where it stopped, and none past it was reached.
-- "mark (0 skipped, 1 opened, 2 stopped here, 3 not reached)"
pub record Stopped (k : ℕ) (m : Met) (at : ℕ) (marks : List ℕ) : Type 0 where
  pub before : List ℕ
  pub past : ℕ
  pub shows : marks ≡ before ++ (2 ∷ replicate past 3)
  pub passed : ByRule k m before
  pub here : OpenRule k (get_or m.ceilings (length before) 0) (found before m.sheets)
  -- "Among several bad bodies met at once the first in byte order is named."
  pub named : get_or m.faults (length before) none ≡ some at

-- ---- a search that begins, on any shelf

-- what it leaves in the book, where `row` are the marks of all intervals
pub record Searching (q s : List ℕ) (fs cs ms : List ℕ) (a : Answer) : Type 0 where
  pub question : Question
  pub faultless : asked q ≡ done question
  pub lists : List shelf.Listing
  pub walked : walk s ≡ done lists
  pub intervals : a.intervals ≡ interval_count question lists
  pub firsts : a.firsts ≡ front (starts 16777215 (lists_for question lists)) fs
  pub ceilings : a.ceilings ≡ front (met_on (lists_for question lists)).ceilings cs
  pub row : List ℕ
  pub one_each : length row ≡ a.intervals
  pub marks : a.marks ≡ front row ms

-- one that stopped at a wrong body, of which the tag stands at `at`: "the interval count is returned, the book is filled with marks 2 and 3 where they apply",
-- and the other counts are 0
pub record Stopping (q s : List ℕ) (fs cs ms : List ℕ) (at : ℕ) (a : Answer) : Type 0 where
  pub search : Searching q s fs cs ms a
  pub stopped : Stopped search.question.k (met_on (lists_for search.question search.lists)) at search.row
  pub opened : a.opened ≡ 0
  pub blocks : a.blocks ≡ 0

-- one that came to its end: "A bad body in a block never opened is not reported by the pruned search; its answer is then what the rule above gives."
pub record Ending (q s : List ℕ) (fs cs ms : List ℕ) (hs : List Hit) (a : Answer) : Type 0 where
  pub search : Searching q s fs cs ms a
  pub passed : ByRule search.question.k (met_on (lists_for search.question search.lists)) search.row
  pub hits : hs ≡ ranking search.question.k (found search.row (met_on (lists_for search.question search.lists)).sheets)
  pub opened : a.opened ≡ count_met (chosen search.row (starts 16777215 (lists_for search.question search.lists))) (lists_for search.question search.lists)
  pub blocks : a.blocks ≡ block_count (lists_for search.question search.lists)

-- ---- what is printed of an answer

-- "H rank from 1, docid, score; I first, last, ceiling, mark as a word; B blocks opened, blocks in all": the hits, the book's rows and the two counts
pub record PrintedAs (text : List ℕ) (a : Answer) : Type 0 where
  pub hits : List Hit
  pub answered : a.outcome ≡ done hits
  pub lines : text
      ≡ hit_lines 1 hits
      ++ (interval_lines 16777215 (take a.intervals a.firsts) (take a.intervals a.ceilings) (take a.intervals a.marks) ++ block_line a.opened a.blocks)
