-- The three demands, each sentence with what is stated for it. All is said of the definitions to which the contracts of the entry points are equal for
-- every input: `asked`, `checked`, `found`, `read_list`, `write_list`, `edited`, `converted`, `rank_all` and `searched`, and `reported` and `checked_text` of the programs. Assumes nothing.
use Rattle.std.specs.Prelude.{ℕ, ◌^◌, ◌≤◌, ◌<◌, ◌≡◌, Bool, ◌↔◌, List, [], map, length}
use Rattle.model.specs.Outcome.{refused, done, and_then}
use Rattle.model.specs.Post.{Post, docs, scores, postings}
use Rattle.model.specs.Runs.{All, has, Bytes}
use Rattle.shelf.specs.Walk.{Listing, strip_of, walk}
use Rattle.shelf.specs.Check.{checked, judged}
use Rattle.shelf.specs.Answers.{placed}
use Rattle.lookup.specs.Find.{find_of, found}
use Rattle.lookup.specs.Show.{summary_shown, body_shown, span_of}
use Rattle.list.specs.Answer.{after}
use Rattle.list.specs.Read.{read_list, docids_of, scores_of}
use Rattle.list.specs.Write.{Full, write_list}
use Rattle.change.specs.Edits.{Edit, Set, stored}
use Rattle.change.specs.Bytes.{edited}
use Rattle.convert.specs.Convert.{converted}
use Rattle.edit.specs.History.{Try, shelf_after, accepted, add_up, History}
use Rattle.query.specs.Query.{Asked, Question, asked}
use Rattle.query.specs.Range.{Once}
use Rattle.rank.specs.Rank.{Hit, ranking}
use Rattle.rank.specs.Match.{score_of, holds, some, hit_at}
use Rattle.exhaustive.specs.Exhaustive.{rank_all}
use Rattle.exhaustive.specs.Lists.{term_on}
use Rattle.pruned.specs.Pruned.{Answer, searched}
use Rattle.lines.specs.Text.{codes, refusal_line}
use Rattle.report.specs.Report.{query_part, shelf_part, reported}
use Rattle.checking.specs.Verdict.{checked_text}
use Rattle.promises.specs.Refusals.{Fault, first_fault, IsFirst, query_faults, check_faults, show_faults, block_shown, block_faults, read_faults, write_faults, edit_faults, convert_faults, rank_faults, search_faults, program_faults}
use Rattle.promises.specs.Served.{lists_for, matches_for, Asks, Room, bytes_of}
use Rattle.promises.specs.Ranked.{In, KBest}
use Rattle.promises.specs.Rows.{Lent, rows_in, left, Filled, Past}
use Rattle.promises.specs.Book.{Booked, CutBy, Stopping, Ending, PrintedAs}
use Rattle.promises.specs.Edits.{left_by, matches_in, AllNamed, Accepted, Changes, Converting, Converts, Shown}

-- "1. Every entry point takes any shelf, query, posting or lent buffer, comes to an end,": each definition is total, and each contract has no premise.
pub record Demand1 : Type 0 where
  -- "and refuses at the first fault in the stated order by its number,"
  pub query : (q : List ℕ) → judged (asked q) ≡ first_fault (query_faults q)
  pub check : (s : List ℕ) → judged (checked s) ≡ first_fault (check_faults s)
  pub show : (t : ℕ) (s : List ℕ) → judged (placed (found t s)) ≡ first_fault (show_faults t s)
  pub show-block : (t : ℕ) (s : List ℕ) (j : ℕ)
      → (judged (summary_shown s (placed (found t s)) j) ≡ first_fault (block_faults t s j)) × (judged (body_shown s (placed (found t s)) j) ≡ first_fault (block_faults t s j))
  -- without a fault it is the list's place, the block's numbers, and where the block's body starts and ends
  pub shown : (t : ℕ) (s : List ℕ) (j : ℕ)
      → (placed (found t s) ≡ and_then (found t s) (λ l. done l.place))
      × (summary_shown s (placed (found t s)) j ≡ and_then (block_shown t s j) (λ b. done b.sum))
      × (body_shown s (placed (found t s)) j ≡ and_then (block_shown t s j) (λ b. done (span_of b)))
  pub read : (t : ℕ) (s : List ℕ) (d w : ℕ) → judged (read_list t s d w) ≡ first_fault (read_faults t s d w)
  pub write : (strip : Bool) (t : ℕ) (ds ss : List ℕ) (room : ℕ) → judged (write_list strip t ds ss room) ≡ first_fault (write_faults strip t ds ss room)
  pub edit : (e : Edit) (s : List ℕ) (room : ℕ) → judged (edited e s room) ≡ first_fault (edit_faults e s room)
  pub convert : (t : ℕ) (s : List ℕ) (room : ℕ) → judged (converted t s room) ≡ first_fault (convert_faults t s room)
  pub rank : (q s : List ℕ) (rows : ℕ) → judged (rank_all q s rows) ≡ first_fault (rank_faults q s rows)
  pub search : (q s : List ℕ) (rows : ℕ) (fs cs ms : List ℕ) → judged (searched q s rows fs cs ms).outcome ≡ first_fault (search_faults q s rows (length fs) (length cs) (length ms))
  -- (the programs) "A refusal prints only `R number offset`.", and what is refused by none prints the answer
  pub program_refuses : (input : List ℕ) (n at : ℕ) → first_fault (program_faults input) ≡ refused n at → reported input ≡ refusal_line n at
  pub program_answers : (input fs cs ms : List ℕ) → length fs ≡ 1025 → length cs ≡ 1025 → length ms ≡ 1025
      → first_fault (program_faults input) ≡ done tt → PrintedAs (reported input) (searched (query_part input) (shelf_part input) 100 fs cs ms)
  pub checker_refuses : (s : List ℕ) (n at : ℕ) → first_fault (check_faults s) ≡ refused n at → checked_text s ≡ refusal_line n at
  pub checker_accepts : (s : List ℕ) → first_fault (check_faults s) ≡ done tt → checked_text s ≡ codes "sound\n"
  pub exactly : (rows : List Fault) (n at : ℕ) → (first_fault rows ≡ refused n at) ↔ IsFirst rows n at
  -- "and never without one."
  pub never-without : (rows : List Fault) → (first_fault rows ≡ done tt) ↔ All (λ (f : Fault). f ≡ done tt) rows
  -- "A refusal changes no output,"
  pub read_keeps : (t : ℕ) (s ds ss : List ℕ) (n at : ℕ) → read_list t s (length ds) (length ss) ≡ refused n at
      → (after (docids_of (read_list t s (length ds) (length ss))) ds ≡ ds) × (after (scores_of (read_list t s (length ds) (length ss))) ss ≡ ss)
  pub write_keeps : (strip : Bool) (t : ℕ) (ds ss out : List ℕ) (n at : ℕ) → write_list strip t ds ss (length out) ≡ refused n at → after (write_list strip t ds ss (length out)) out ≡ out
  pub edit-keeps : (e : Edit) (s out : List ℕ) (n at : ℕ) → edited e s (length out) ≡ refused n at → after (edited e s (length out)) out ≡ out
  pub convert-keeps : (t : ℕ) (s out : List ℕ) (n at : ℕ) → converted t s (length out) ≡ refused n at → after (converted t s (length out)) out ≡ out
  pub search-keeps : (q s : List ℕ) (rows : ℕ) (fs cs ms : List ℕ) (n at : ℕ) → (searched q s rows fs cs ms).outcome ≡ refused n at → (n ≡ 8 → ⊥)
      → searched q s rows fs cs ms ≡ record { outcome = refused n at; intervals = 0; opened = 0; blocks = 0; firsts = fs; ceilings = cs; marks = ms }
  -- the same of the rows that are lent for hits, in either public form, 8 included: "and hit rows are untouched"
  pub rank-keeps : (q s : List ℕ) (r : Lent) (n at : ℕ) → rank_all q s (rows_in r) ≡ refused n at → left (rank_all q s (rows_in r)) r ≡ r
  pub search-rows : (q s : List ℕ) (r : Lent) (fs cs ms : List ℕ) (n at : ℕ) → (searched q s (rows_in r) fs cs ms).outcome ≡ refused n at → left (searched q s (rows_in r) fs cs ms).outcome r ≡ r
  -- (the paper) "rows past the last hit are not touched, nor is any other output past its end": the hits and then the rows as they were, and the book's runs past its rows
  pub rank-fills : (q s : List ℕ) (r : Lent) (hs : List Hit) → rank_all q s (rows_in r) ≡ done hs → Filled hs r (left (rank_all q s (rows_in r)) r)
  pub search-fills : (q s : List ℕ) (r : Lent) (fs cs ms : List ℕ) (hs : List Hit) → (searched q s (rows_in r) fs cs ms).outcome ≡ done hs
      → Filled hs r (left (searched q s (rows_in r) fs cs ms).outcome r)
  pub book-past : (q s : List ℕ) (rows : ℕ) (fs cs ms : List ℕ) (a : Answer) → searched q s rows fs cs ms ≡ a
      → Past a.intervals fs a.firsts × Past a.intervals cs a.ceilings × Past a.intervals ms a.marks
  -- "except a bad block met during a search, where the interval book shows how far the search came."
  pub search_stops : (q s : List ℕ) (rows : ℕ) (fs cs ms : List ℕ) (at : ℕ) → (searched q s rows fs cs ms).outcome ≡ refused 8 at
      → Stopping q s fs cs ms at (searched q s rows fs cs ms)
  -- (the paper) "A bad body in a block never opened is not reported by the pruned search; its answer is then what the rule above gives."
  pub search-ends : (q s : List ℕ) (rows : ℕ) (fs cs ms : List ℕ) (hs : List Hit) → (searched q s rows fs cs ms).outcome ≡ done hs
      → Ending q s fs cs ms hs (searched q s rows fs cs ms)

pub record Demand2 : Type 0 where
  -- "2. On a sound shelf a query without fault, with room enough, gets exactly the exhaustive ranking of source document 003"
  pub prunes : (q s : List ℕ) (x : Question) (ls : List Listing) → Asks q s x ls → (rows : ℕ) (fs cs ms : List ℕ) → Room x ls rows fs cs ms
      → (searched q s rows fs cs ms).outcome ≡ done (ranking x.k (matches_for x ls))
  pub ranks : (q s : List ℕ) (x : Question) (ls : List Listing) → Asks q s x ls → (rows : ℕ) → x.k ≤ rows → rank_all q s rows ≡ done (ranking x.k (matches_for x ls))
  -- and room for 1,025 intervals is always enough
  pub room : (q s : List ℕ) (x : Question) (ls : List Listing) → Asks q s x ls → (rows : ℕ) (fs cs ms : List ℕ)
      → x.k ≤ rows → 1025 ≤ length fs → 1025 ≤ length cs → 1025 ≤ length ms → Room x ls rows fs cs ms
  -- "by summed weight times score:" the sheets that some list holds, each with its sum
  pub matching : (x : Question) (ls : List Listing) (d : ℕ) → has d (docs (matches_for x ls)) ≡ some (holds (map (term_on ls) x.terms) d)
  pub scoring : (x : Question) (ls : List Listing) → All (λ (h : Hit). h.score ≡ score_of (map (term_on ls) x.terms) h.doc) (matches_for x ls)
  -- no sheet stands there twice
  pub once : (q s : List ℕ) (x : Question) (ls : List Listing) → Asks q s x ls → Once (docs (ranking x.k (matches_for x ls)))
  -- "higher first, lower sheet number first on a tie, the best k or all there are."
  pub best : (k : ℕ) (hs : List Hit) → KBest k hs (ranking k hs)
  -- "Postings written and read back are the same postings;" in either layout
  pub reads_back : (strip : Bool) (t : ℕ) (ds ss : List ℕ) (room : ℕ) (v : List ℕ) (d w : ℕ) → t < 2 ^ 32 → write_list strip t ds ss room ≡ done v → length ds ≤ d → length ds ≤ w
      → read_list t v d w ≡ done (postings ds ss)
  -- "a sound list with every block but the last full, read and written, is the same bytes.": a list that is read, whatever other lists hold; the writer is told its layout
  pub writes_back : (s : List ℕ) (ls : List Listing) → Bytes s → walk s ≡ done ls → (t : ℕ) (l : Listing) → find_of t ls ≡ done l → Full l.blocks
      → (d w : ℕ) (ps : List Post) → read_list t s d w ≡ done ps → (room : ℕ) → length (bytes_of s l) ≤ room → write_list (strip_of l.blocks) t (docs ps) (scores ps) room ≡ done (bytes_of s l)

pub record Demand3 : Type 0 where
  -- "3. Start from an empty shelf and make any sequence of edits, each accepted result feeding the next, refused ones changing nothing. The shelf is then
  -- sound, holds exactly the postings the accepted edits add up to, and has the bytes that one writing of them gives."
  pub history : (es : List Try) → AllNamed es → History (shelf_after es []) (add_up (accepted es []) [])
  -- ("conversions may stand in demand 3's history, changing no posting") each posting is what the last accepted edit that touches it leaves
  pub adds-up : (es : List Try) (t d : ℕ) → stored t d (add_up (accepted es []) []) ≡ left_by t d 0 (accepted es [])
  -- "For any accepted query on it with room enough, every sheet number is in exactly one interval, and an interval is skipped exactly when .."
  pub books : (es : List Try) → AllNamed es → (ls : List Listing) → checked (shelf_after es []) ≡ done ls → (q : List ℕ) (x : Question) → Bytes q → asked q ≡ done x
      → (rows : ℕ) (fs cs ms : List ℕ) → Room x ls rows fs cs ms → Booked x.k (matches_in x (add_up (accepted es []) [])) (searched q (shelf_after es []) rows fs cs ms)
  -- with demand 2, its answer is the ranking of the postings that the accepted edits add up to
  pub answers : (es : List Try) → AllNamed es → (ls : List Listing) → checked (shelf_after es []) ≡ done ls → (q : List ℕ) (x : Question) → Bytes q → asked q ≡ done x
      → (rows : ℕ) (fs cs ms : List ℕ) → Room x ls rows fs cs ms → (searched q (shelf_after es []) rows fs cs ms).outcome ≡ done (ranking x.k (matches_in x (add_up (accepted es []) [])))
  -- the same on every sound shelf, with what the paper says of intervals, ceilings and counts
  pub books_any : (q s : List ℕ) (x : Question) (ls : List Listing) → Asks q s x ls → (rows : ℕ) (fs cs ms : List ℕ) → Room x ls rows fs cs ms
      → Booked x.k (matches_for x ls) (searched q s rows fs cs ms) × CutBy (lists_for x ls) (score_of (map (term_on ls) x.terms)) (searched q s rows fs cs ms)
  -- (the paper) "On any other sound shelf an accepted edit likewise leaves a sound shelf with the old postings and its own change."
  pub changes : (e : Edit) (s : List ℕ) (old : List Listing) (v : List ℕ) → Accepted e s old v → Changes e s old v
  -- a conversion leaves a sound shelf that holds the same, with the list in the other layout and every other list byte for byte
  pub converts : (t : ℕ) (s : List ℕ) (old : List Listing) (v : List ℕ) → Converting t s old v → Converts t s old v
  -- (request 1) "a search answers alike": whatever is asked and whatever is lent, the hits or the refusal, the counts and the book are the old shelf's
  pub alike : (t : ℕ) (s : List ℕ) (old : List Listing) (v : List ℕ) → Converting t s old v → (q : List ℕ) (rows : ℕ) (fs cs ms : List ℕ)
      → (searched q v rows fs cs ms ≡ searched q s rows fs cs ms) × (rank_all q v rows ≡ rank_all q s rows)
  -- the incident: "A regulator erratum was raised to the top score while its block kept the old greatest score. The block stayed shut."
  pub shows : (t d w : ℕ) (s : List ℕ) (old : List Listing) (v : List ℕ) → Accepted (Set t d w) s old v → (q : List ℕ) (x : Question) (ls : List Listing) → Asks q v x ls
      → (y : Asked) → In y x.terms → y.term ≡ t → (rows : ℕ) (fs cs ms : List ℕ) → Room x ls rows fs cs ms
      → Shown w y x.k (matches_for x ls) (hit_at (map (term_on ls) x.terms) d) (searched q v rows fs cs ms).outcome
