-- The marked examples M1 to M10 as one table: what is done, over the definitions, and what the paper says. Assumes nothing.
use Rattle.std.specs.Prelude.{ℕ, ◌+◌, ◌*◌, ◌-◌, Bool, true, false, cond, List, [], ◌∷◌, ◌++◌, ltb, eqb, length, replicate}
use Prim.Native.String.{String}
use Rattle.model.specs.Outcome.{Outcome, refused, done}
use Rattle.model.specs.Post.{post}
use Rattle.shelf.specs.Walk.{Block, Listing}
use Rattle.shelf.specs.Check.{judged, checked}
use Rattle.change.specs.Edits.{Set}
use Rattle.edit.specs.History.{Change, Try, shelf_after}
use Rattle.rank.specs.Rank.{Hit}
use Rattle.pruned.specs.Pruned.{Answer, searched}
use Rattle.lines.specs.Text.{codes}
use Rattle.report.specs.Report.{reported}

-- ---- bytes as the paper writes them: two hexadecimal digits each, blanks anywhere

abbrev unless : Bool → ℕ → List ℕ → List ℕ
unless true c cs = cs
unless false c cs = c ∷ cs

abbrev dense : List ℕ → List ℕ
dense [] = []
dense (c ∷ cs) = unless (eqb c 32) c (dense cs)

abbrev digit : ℕ → ℕ
digit c = cond (ltb c 58) (c - 48) (c - 87)

abbrev paired : List ℕ → List ℕ
paired [] = []
paired (c ∷ []) = []
paired (c ∷ d ∷ cs) = (16 * digit c + digit d) ∷ paired cs

abbrev pub hex : String → List ℕ
hex s = paired (dense (codes s))

-- ---- the paper's queries and shelves

-- "Query `20 0001 01`, `21 0005 00000007 01`, `21 0005 00000009 02`", for any k
abbrev pub query : ℕ → List ℕ
query k = hex "20 0001" ++ (k ∷ hex "21 0005 00000007 01 21 0005 00000009 02")

-- "Shelf, 73 bytes"; the second summary's score is 1, and in M5 and M6 it is 3
abbrev pub shelf_with : ℕ → List ℕ
shelf_with score =
    hex "010005 00000007 02  020009 000002 000004 0005 02  020009 000009 000009 00" ++ (score ∷ hex "01  030005 0005 01 0003  030002 0001")
    ++ hex "010005 00000009 01  020009 000004 000006 0004 02  030005 0004 01 0002"

-- "M7 blocks {3:6} and {8:6}, weight 1, k=1"
abbrev pub query7 : List ℕ
query7 = hex "20 0001 01 21 0005 00000005 01"

abbrev pub shelf7 : List ℕ
shelf7 = hex "010005 00000005 02  020009 000003 000003 0006 01  020009 000008 000008 0006 01  030002 0006  030002 0006"

-- ---- what is done

-- a search with eight rows of 99 in each run of the book, one more than seven intervals need
abbrev lent : List ℕ
lent = replicate 8 99

abbrev search : (q s : List ℕ) → Answer
search q s = searched q s 100 lent lent lent

-- a set that is tried, with room for any shelf
abbrev set : (t d w : ℕ) → Try
set t d w = record { act = Change (Set t d w); room = 1048576 }

-- the greatest scores that the blocks of a sound shelf store
abbrev tops_in : List Block → List ℕ
tops_in [] = []
tops_in (b ∷ bs) = b.sum.top ∷ tops_in bs

abbrev tops_on : List Listing → List ℕ
tops_on [] = []
tops_on (l ∷ ls) = tops_in l.blocks ++ tops_on ls

abbrev tops_of : Outcome (List Listing) → List ℕ
tops_of (refused n at) = []
tops_of (done ls) = tops_on ls

-- ---- the table

pub data Result : Type 0 where
  gives : Answer → Result
  prints : List ℕ → Result
  checks : Outcome (Unit {0}) → Result
  greatest : List ℕ → Result
  bytes : ℕ → Result

pub record Row : Type 0 where
  pub name : String
  pub does : Result
  pub says : Result

abbrev row : String → Result → Result → Row
row n d s = record { name = n; does = d; says = s }

-- the book of M1 to M6: "I 1 1 0", "I 2 3 5", "I 4 4 13", "I 5 6 8", "I 7 8 0", "I 9 9 1", "I 10 16777215 0"
-- with the ceiling of [9,9], which goes by the second summary's score
abbrev seven : (o : Outcome (List Hit)) (opened blocks nine : ℕ) (marks : List ℕ) → Answer
seven o opened blocks nine marks = record {
  outcome = o;
  intervals = 7;
  opened = opened;
  blocks = blocks;
  firsts = 1 ∷ 2 ∷ 4 ∷ 5 ∷ 7 ∷ 9 ∷ 10 ∷ 99 ∷ [];
  ceilings = 0 ∷ 5 ∷ 13 ∷ 8 ∷ 0 ∷ nine ∷ 0 ∷ 99 ∷ [];
  marks = marks ++ (99 ∷ []);
}

abbrev pub table : List Row
table =
    -- "M1 the search above."
    row "M1" (gives (search (query 1) (shelf_with 1))) (gives (seven (done (post 4 11 ∷ [])) 2 3 1 (0 ∷ 1 ∷ 1 ∷ 0 ∷ 0 ∷ 0 ∷ 0 ∷ [])))
    ∷ row "M1, printed" (prints (reported (query 1 ++ shelf_with 1)))
    (prints (codes "H 1 4 11\nI 1 1 0 skipped\nI 2 3 5 opened\nI 4 4 13 opened\nI 5 6 8 skipped\nI 7 8 0 skipped\nI 9 9 1 skipped\nI 10 16777215 0 skipped\nB 2 3\n"))
    -- "M2 k=2: hits 4:11, 2:5; [5,6] opened."
    ∷ row "M2" (gives (search (query 2) (shelf_with 1))) (gives (seven (done (post 4 11 ∷ post 2 5 ∷ [])) 2 3 1 (0 ∷ 1 ∷ 1 ∷ 1 ∷ 0 ∷ 0 ∷ 0 ∷ [])))
    -- "M3 k=3: adds 6:4; [9,9] skipped."
    ∷ row "M3" (gives (search (query 3) (shelf_with 1))) (gives (seven (done (post 4 11 ∷ post 2 5 ∷ post 6 4 ∷ [])) 2 3 1 (0 ∷ 1 ∷ 1 ∷ 1 ∷ 0 ∷ 0 ∷ 0 ∷ [])))
    -- "M4 k=5: four hits, last 9:1."
    ∷ row "M4" (gives (search (query 5) (shelf_with 1))) (gives (seven (done (post 4 11 ∷ post 2 5 ∷ post 6 4 ∷ post 9 1 ∷ [])) 3 3 1 (0 ∷ 1 ∷ 1 ∷ 1 ∷ 0 ∷ 1 ∷ 0 ∷ [])))
    -- "M5 second summary's score made 3, k=1: same hits, checker says 8 at 40."
    ∷ row "M5" (gives (search (query 1) (shelf_with 3))) (gives (seven (done (post 4 11 ∷ [])) 2 3 3 (0 ∷ 1 ∷ 1 ∷ 0 ∷ 0 ∷ 0 ∷ 0 ∷ [])))
    ∷ row "M5, checked" (checks (judged (checked (shelf_with 3)))) (checks (refused 8 40))
    -- "M6 the same, k=4: 8 at 40, marks 0 1 1 1 0 2 3."
    ∷ row "M6" (gives (search (query 4) (shelf_with 3))) (gives (seven (refused 8 40) 0 0 3 (0 ∷ 1 ∷ 1 ∷ 1 ∷ 0 ∷ 2 ∷ 3 ∷ [])))
    -- "M7 blocks {3:6} and {8:6}, weight 1, k=1: hit 3:6, one block of two."
    ∷ row "M7" (gives (search query7 shelf7)) (gives (record {
      outcome = done (post 3 6 ∷ []);
      intervals = 5;
      opened = 1;
      blocks = 2;
      firsts = 1 ∷ 3 ∷ 4 ∷ 8 ∷ 9 ∷ 99 ∷ 99 ∷ 99 ∷ [];
      ceilings = 0 ∷ 6 ∷ 0 ∷ 6 ∷ 0 ∷ 99 ∷ 99 ∷ 99 ∷ [];
      marks = 0 ∷ 1 ∷ 0 ∷ 0 ∷ 0 ∷ 99 ∷ 99 ∷ 99 ∷ [];
    }))
    -- "M8 empty shelf: one interval, no hit, B 0 0."
    ∷ row "M8" (gives (search (query 1) [])) (gives (record {
      outcome = done [];
      intervals = 1;
      opened = 0;
      blocks = 0;
      firsts = 1 ∷ replicate 7 99;
      ceilings = 0 ∷ replicate 7 99;
      marks = 0 ∷ replicate 7 99;
    }))
    -- "M9 set (5,3,6), (5,8,9), (5,8,2): greatest score 6."
    ∷ row "M9" (greatest (tops_of (checked (shelf_after (set 5 3 6 ∷ set 5 8 9 ∷ set 5 8 2 ∷ []) [])))) (greatest (6 ∷ []))
    -- "M10 setting M1's five postings on an empty shelf: 59 bytes."
    ∷ row "M10" (bytes (length (shelf_after (set 7 2 5 ∷ set 7 4 3 ∷ set 7 9 1 ∷ set 9 4 4 ∷ set 9 6 2 ∷ []) []))) (bytes 59)
    ∷ []
