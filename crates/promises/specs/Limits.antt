-- The limits of the paper in its own numbers: what is just inside is accepted, what is just outside is refused by its number. What can be computed is a row of one
-- table; the rest is a law. Assumes nothing.
use Rattle.std.specs.Prelude.{ℕ, zero, suc, ◌+◌, ◌≤◌, ◌<◌, ◌≡◌, false, true, ◌↔◌, List, [], ◌∷◌, ◌++◌, map, length, get_or, replicate}
use Prim.Native.String.{String}
use Rattle.model.specs.Outcome.{Outcome, refused, done, and_then}
use Rattle.model.specs.Post.{post}
use Rattle.model.specs.Runs.{All}
use Rattle.shelf.specs.Walk.{lists, walk}
use Rattle.shelf.specs.Check.{judged, checked}
use Rattle.list.specs.Write.{Word, writing, write_list}
use Rattle.change.specs.Edits.{Edit, Set, Clear, Withdraw}
use Rattle.change.specs.Bytes.{Piece, joined, within, edited}
use Rattle.query.specs.Query.{asked}
use Rattle.promises.specs.Marked.{hex}

-- ---- what is done

-- it is accepted, or its refusal
abbrev taken : {A : Type 0} → Outcome A → Outcome ℕ
taken o = and_then o (λ x. done 0)

-- a query for k sheets; a term below 256 with its weight; the n terms below n
abbrev query : (k : ℕ) → List ℕ → Outcome ℕ
query k terms = taken (asked (hex "20 0001" ++ (k ∷ terms)))

abbrev term : (t w : ℕ) → List ℕ
term t w = hex "21 0005 000000" ++ (t ∷ w ∷ [])

abbrev terms : ℕ → List ℕ
terms zero = []
terms (suc n) = terms n ++ term n 1

-- the docids d, d + 1, .., n of them; and as many scores of 1
abbrev pub up_from : (d n : ℕ) → List ℕ
up_from d zero = []
up_from d (suc n) = d ∷ up_from (d + 1) n

-- postings written as the list of term 7, with room for any shelf: the bytes
abbrev pub written : (ds ss : List ℕ) → Outcome (List ℕ)
written ds ss = write_list false 7 ds ss 1048576

-- one posting written
abbrev one : (d w : ℕ) → Outcome ℕ
one d w = taken (written (d ∷ []) (w ∷ []))

-- n postings written, and what was written checked: how many blocks its header has
abbrev blocks : ℕ → Outcome ℕ
blocks n = and_then (written (up_from 1 n) (replicate n 1)) (λ v. and_then (checked v) (λ ls. done (get_or v 7 0)))

-- an edit of an empty shelf
abbrev edit : Edit → Outcome ℕ
edit e = taken (edited e [] 1048576)

abbrev shelf : String → Outcome ℕ
shelf bytes = taken (checked (hex bytes))

-- ---- the table

pub record Row : Type 0 where
  pub limit : String
  pub does : Outcome ℕ
  pub says : Outcome ℕ

abbrev row : String → Outcome ℕ → Outcome ℕ → Row
row l d s = record { limit = l; does = d; says = s }

abbrev accepted : Outcome ℕ
accepted = done 0

abbrev pub table : List Row
table =
    -- "query: k, terms, weight: 1 to 100, 1 to 8, 1 to 255"
    row "k 0" (query 0 (term 7 1)) (refused 2 0)
    ∷ row "k 1" (query 1 (term 7 1)) accepted
    ∷ row "k 100" (query 100 (term 7 1)) accepted
    ∷ row "k 101" (query 101 (term 7 1)) (refused 2 0)
    ∷ row "no term" (query 1 (terms 0)) (refused 3 4)
    ∷ row "8 terms" (query 1 (terms 8)) accepted
    ∷ row "9 terms" (query 1 (terms 9)) (refused 3 68)
    ∷ row "weight 0" (query 1 (term 7 0)) (refused 4 4)
    ∷ row "weight 255" (query 1 (term 7 255)) accepted
    -- "sheet number (docid): 1 to 16,777,215"
    ∷ row "docid 0, written" (one 0 1) (refused 10 0)
    ∷ row "docid 1, written" (one 1 1) accepted
    ∷ row "docid 16,777,215, written" (one 16777215 1) accepted
    ∷ row "docid 16,777,216, written" (one 16777216 1) (refused 10 0)
    ∷ row "docid 0, set" (edit (Set 7 0 1)) (refused 10 0)
    ∷ row "docid 16,777,215, set" (edit (Set 7 16777215 1)) accepted
    ∷ row "docid 16,777,216, set" (edit (Set 7 16777216 1)) (refused 10 0)
    ∷ row "docid 16,777,215, cleared" (edit (Clear 7 16777215)) (refused 12 0)
    ∷ row "docid 16,777,216, cleared" (edit (Clear 7 16777216)) (refused 10 0)
    ∷ row "docid 16,777,215, withdrawn" (edit (Withdraw 16777215)) (refused 12 0)
    ∷ row "docid 16,777,216, withdrawn" (edit (Withdraw 16777216)) (refused 10 0)
    -- "stored score: 1 to 65,535"
    ∷ row "score 0, written" (one 1 0) (refused 10 0)
    ∷ row "score 65,535, written" (one 1 65535) accepted
    ∷ row "score 65,536, written" (one 1 65536) (refused 10 0)
    ∷ row "score 0, set" (edit (Set 7 1 0)) (refused 10 0)
    ∷ row "score 65,535, set" (edit (Set 7 1 65535)) accepted
    ∷ row "score 65,536, set" (edit (Set 7 1 65536)) (refused 10 0)
    -- "postings per block, blocks per list: 1 to 100, 1 to 64"; the writer fills a block with 100
    ∷ row "no posting, written" (blocks 0) (refused 10 0)
    ∷ row "100 postings, written: blocks" (blocks 100) (done 1)
    ∷ row "101 postings, written: blocks" (blocks 101) (done 2)
    ∷ row "a block of 101" (shelf "010005 00000007 01  020009 000001 000065 0001 65  030000") (refused 7 8)
    ∷ row "a block of 100, its body empty" (shelf "010005 00000007 01  020009 000001 000064 0001 64  030000") (refused 8 20)
    ∷ row "a list of no block" (shelf "010005 00000007 00") (refused 6 0)
    ∷ row "a list of 65 blocks" (shelf "010005 00000007 41") (refused 6 0)
    ∷ row "a list of 64 blocks, cut short after its header" (shelf "010005 00000007 40") (refused 6 8)
    -- "at most four bytes": gap numbers of one byte, of two, of four, of five
    ∷ row "gap number 127" (shelf "010005 00000007 01  020009 000001 000081 0001 02  030005 0001 7f 0001") accepted
    ∷ row "gap number 128" (shelf "010005 00000007 01  020009 000001 000082 0001 02  030006 0001 8001 0001") accepted
    ∷ row "a gap number of four bytes" (shelf "010005 00000007 01  020009 000001 200002 0001 02  030008 0001 80808001 0001") accepted
    ∷ row "a gap number of five bytes" (shelf "010005 00000007 01  020009 000001 ffffff 0001 02  030009 0001 8080808001 0001") (refused 8 20)
    ∷ []

-- ---- what is too large to compute

-- n lists of one posting each, of the terms t, t + 1, ..
abbrev pub words_from : (t n : ℕ) → List Word
words_from t zero = []
words_from t (suc n) = record { term = t; posts = post 1 1 ∷ []; strip = false } ∷ words_from (t + 1) n

-- "result would pass 6,400 postings, 1,024 lists or 1,048,576 bytes"
pub record Bounded (xs : List Piece) : Type 0 where
  pub postings : All (λ (x : Piece). length x.posts ≤ 6400) xs
  pub lists : length xs ≤ 1024
  pub bytes : length (joined xs) ≤ 1048576

pub record Limits : Type 0 where
  pub rows : map (λ (r : Row). r.does) table ≡ map (λ (r : Row). r.says) table
  -- "postings per list: 1 to 6,400", which is 64 blocks of 100
  pub postings_in : (n : ℕ) → 1 ≤ n → n ≤ 6400 → judged (and_then (written (up_from 1 n) (replicate n 1)) checked) ≡ done tt
  pub postings-out : (n : ℕ) → 6400 < n → written (up_from 1 n) (replicate n 1) ≡ refused 11 0
  -- "lists per shelf: 0 to 1,024": "1,025th list: its tag", each list having 25 bytes
  pub lists-in : (n : ℕ) → n ≤ 1024 → judged (checked (writing (words_from 0 n))) ≡ done tt
  pub lists-out : (n : ℕ) → 1024 < n → n ≤ 41943 → checked (writing (words_from 0 n)) ≡ refused 6 25600
  -- "bytes per shelf: 0 to 1,048,576": "shelf over 1,048,576 bytes (offset 0)"; any other is walked, list by list
  pub bytes-in : (s : List ℕ) → length s ≤ 1048576 → walk s ≡ lists 1024 0 0 s
  pub bytes-out : (s : List ℕ) → 1048576 < length s → walk s ≡ refused 6 0
  -- an edit's result
  pub results : (xs : List Piece) → (within xs ≡ true) ↔ Bounded xs
