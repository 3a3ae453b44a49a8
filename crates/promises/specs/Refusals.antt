-- "A refusal is given exactly when its row applies and none earlier in the order does." The faults of each entry point, in its order; each row says by
-- itself whether it applies. Assumes nothing.
use Rattle.std.specs.Prelude.{ℕ, min, max, ◌≡◌, Bool, false, not, cond, ◌&&◌, ◌||◌, List, [], ◌∷◌, ◌++◌, leb, ltb, eqb, length, drop, Some, None, Result, Ok, Err}
use Rattle.std.specs.Prelude as prelude
use Rattle.std.proofs.Math.Option.{Option, none, some}
use Rattle.model.specs.Outcome.{Outcome, refused, done, and_then}
use Rattle.model.specs.Post.{postings}
use Rattle.model.specs.Runs.{All}
use Rattle.wire.specs.Number.{num}
use Rattle.shelf.specs.Walk.{Block, Listing, posts_of, walk}
use Rattle.shelf.specs.Check.{bad_body, bad_lists, judged}
use Rattle.lookup.specs.Find.{found}
use Rattle.lookup.specs.Gather.{term_blocks}
use Rattle.lookup.specs.Show.{block_of}
use Rattle.list.specs.Write.{fault_at, list_bytes}
use Rattle.change.specs.Edits.{Edit}
use Rattle.change.specs.Bytes.{pieces, joined, changed, in_range, there, within}
use Rattle.convert.specs.Convert.{listed, turned_pieces}
use Rattle.query.specs.Query.{Asked, term_at, terms_in, field_count, all_right, weighted, unrepeated}
use Rattle.rank.specs.Match.{any_list}
use Rattle.prune.specs.Cut as prune
use Rattle.prune.specs.Cut.{starts}
use Rattle.prune.specs.Prune.{never, fault_all, pruned}
use Rattle.exhaustive.specs.Lists.{listings_of}
use Rattle.intervals.specs.Blocks.{room_for}
use Rattle.report.specs.Report.{query_part, shelf_part}

-- ---- the order

-- a row of the table: it applies, with its number and offset, or it does not
abbrev pub Fault : Type 0
Fault = Outcome (Unit {0})

abbrev pub row : (applies : Bool) (number offset : ℕ) → Fault
row applies n at = cond applies (refused n at) (done tt)

-- the first that applies
abbrev pub first_fault : List Fault → Fault
first_fault [] = done tt
first_fault (f ∷ fs) = and_then f (λ ok. first_fault fs)

-- it applies, and none before it does
pub record IsFirst (fs : List Fault) (n at : ℕ) : Type 0 where
  pub before : List Fault
  pub past : List Fault
  pub splits : fs ≡ before ++ (refused n at ∷ past)
  pub clear : All (λ (f : Fault). f ≡ done tt) before

-- where there is a refusal, its number is such
abbrev pub Numbered : {A : Type 0} → (ℕ → Type 0) → Outcome A → Type 0
Numbered P (refused n at) = P n
Numbered P (done x) = Unit {0}

-- ---- a query: 1, 2, 3, 4, 5

-- its k and its terms, as far as its fields are right
abbrev pub k_in : List ℕ → ℕ
k_in q = num 1 (drop 3 q)

abbrev pub fields_of : Result ℕ ℕ → ℕ
fields_of (Ok n) = n
fields_of (Err at) = 0

abbrev pub terms_read : List ℕ → Result ℕ ℕ → List Asked
terms_read q r = terms_in (fields_of r) (drop 4 q)

abbrev pub terms_asked : List ℕ → List Asked
terms_asked q = terms_read q (field_count q)

abbrev pub fields_faults : List ℕ → Result ℕ ℕ → List Fault
fields_faults q r =
    -- 1: "query fields wrong or cut short: first such field, or query length"
    judged (all_right r)
    -- 2: "k not 1 to 100: 0"
    ∷ row (not (ltb 0 (k_in q) && leb (k_in q) 100)) 2 0
    -- 3: "no term, or more than 8: query length, or the ninth"
    ∷ row (not (ltb 0 (length (terms_read q r)))) 3 (length q)
    ∷ row (not (leb (length (terms_read q r)) 8)) 3 (term_at 8)
    -- 4: "weight 0: first such field"
    ∷ weighted 0 (terms_read q r)
    -- 5: "term twice: the second of the first pair to close"
    ∷ unrepeated [] 0 (terms_read q r)
    ∷ []

abbrev pub query_faults : List ℕ → List Fault
query_faults q = fields_faults q (field_count q)

-- ---- a shelf: 6/7, "found in one walk, first in byte order"; its lists where there is no such fault

abbrev pub lists_of : Outcome (List Listing) → List Listing
lists_of (refused n at) = []
lists_of (done ls) = ls

abbrev pub walk_fault : List ℕ → Fault
walk_fault s = judged (walk s)

abbrev pub lists_on : List ℕ → List Listing
lists_on s = lists_of (walk s)

-- 8: "wrong body: its tag"
abbrev pub body_fault : prelude.Option ℕ → Fault
body_fault None = done tt
body_fault (Some at) = refused 8 at

-- ---- "Checker 6/7, 8."
abbrev pub check_faults : List ℕ → List Fault
check_faults s = walk_fault s ∷ body_fault (bad_lists (lists_on s)) ∷ []

-- ---- "a list shown in place 6/7, 12"
abbrev pub show_faults : (t : ℕ) → List ℕ → List Fault
show_faults t s = walk_fault s ∷ row (not (listed t (lists_on s))) 12 0 ∷ []

-- and of its block j, "list, block or posting not there: 12"
abbrev pub block_shown : (t : ℕ) → List ℕ → (j : ℕ) → Outcome Block
block_shown t s j = and_then (found t s) (λ l. block_of l.blocks j)

abbrev pub block_faults : (t : ℕ) → List ℕ → (j : ℕ) → List Fault
block_faults t s j = walk_fault s ∷ row (not (listed t (lists_on s))) 12 0 ∷ row (not (ltb j (length (term_blocks t (lists_on s))))) 12 0 ∷ []

-- ---- "List reading 6/7, 12, 8 (that list), 9", into two runs of d and w numbers
abbrev pub read_faults : (t : ℕ) → List ℕ → (d w : ℕ) → List Fault
read_faults t s d w =
    walk_fault s
    ∷ row (not (listed t (lists_on s))) 12 0
    ∷ body_fault (bad_body (term_blocks t (lists_on s)))
    ∷ row (not (leb (length (posts_of (term_blocks t (lists_on s)))) (min d w))) 9 0
    ∷ []

-- ---- "Writing 11 (the longer run), 10 (unequal runs first), 9."
abbrev pub write_faults : (strip : Bool) (t : ℕ) (ds ss : List ℕ) (room : ℕ) → List Fault
write_faults strip t ds ss room =
    row (ltb 6400 (max (length ds) (length ss))) 11 0
    ∷ row (not (eqb (length ds) (length ss))) 10 (min (length ds) (length ss))
    ∷ row (eqb (length ds) 0) 10 0
    ∷ row (ltb (fault_at 0 (postings ds ss)) (length ds)) 10 (fault_at 0 (postings ds ss))
    ∷ row (ltb room (length (list_bytes strip t (postings ds ss)))) 9 0
    ∷ []

-- ---- "Edits 10, 6/7, 8 (whole shelf), 12, 11, 9."
abbrev pub edit_faults : Edit → List ℕ → (room : ℕ) → List Fault
edit_faults e s room =
    row (not (in_range e)) 10 0
    ∷ walk_fault s
    ∷ body_fault (bad_lists (lists_on s))
    ∷ row (not (there e (pieces s (lists_on s)))) 12 0
    ∷ row (not (within (changed e (pieces s (lists_on s))))) 11 0
    ∷ row (not (leb (length (joined (changed e (pieces s (lists_on s))))) room)) 9 0
    ∷ []

-- ---- "converter 6/7, 8 (whole shelf), 12, 9."
abbrev pub convert_faults : (t : ℕ) → List ℕ → (room : ℕ) → List Fault
convert_faults t s room =
    walk_fault s
    ∷ body_fault (bad_lists (lists_on s))
    ∷ row (not (listed t (lists_on s))) 12 0
    ∷ row (not (leb (length (joined (turned_pieces t s (lists_on s)))) room)) 9 0
    ∷ []

-- ---- "pruned search 1, 2, 3, 4, 5, then 6/7, 9, 8; exhaustive the same, checking all bodies of the query's lists"

abbrev pub lists_asked : (q s : List ℕ) → List prune.Listing
lists_asked q s = listings_of (terms_asked q) (lists_on s)

abbrev pub fault_here : Option ℕ → Fault
fault_here none = done tt
fault_here (some at) = refused 8 at

abbrev pub rank_faults : (q s : List ℕ) (rows : ℕ) → List Fault
rank_faults q s rows = query_faults q ++ (walk_fault s ∷ row (not (leb (k_in q) rows)) 9 0 ∷ fault_here (fault_all (lists_asked q s)) ∷ [])

-- 9: "hit rows are fewer than k, a book run is shorter than the interval count", where the book's runs have a, b and c rows; 8 by the bodies that the search meets
abbrev pub search_faults : (q s : List ℕ) (rows a b c : ℕ) → List Fault
search_faults q s rows a b c =
    query_faults q
    ++ (walk_fault s
    ∷ row (not (leb (k_in q) rows && room_for (length (starts 16777215 (lists_asked q s))) a b c)) 9 0
    ∷ judged (pruned any_list never 16777215 (k_in q) (lists_asked q s))
    ∷ [])

-- ---- the search program: 13 "before all else", then what the search of its input's two parts refuses, with room for every answer
abbrev pub program_faults : (input : List ℕ) → List Fault
program_faults input = row (ltb 65536 (length input)) 13 0 ∷ search_faults (query_part input) (shelf_part input) 100 1025 1025 1025
