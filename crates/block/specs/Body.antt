-- A block's body: its postings, and when it is right for its summary. Assumes nothing.
use Rattle.std.specs.Prelude.{ℕ, zero, suc, ◌+◌, ◌-◌, ◌*◌, List, [], ◌∷◌, ◌++◌, Bool, true, false, cond, ◌&&◌, leb, eqb, length, get_or, take, drop, ◌≡◌}
use Rattle.model.specs.Limits.{gap_most}
use Rattle.std.proofs.lemmas.List.Edits.{sets}
use Rattle.model.specs.Post.{Post, post, docs, scores, last_doc, top_score}
use Rattle.wire.specs.Read.{Read, got, stopped, further}
use Rattle.wire.specs.Number.{be}
use Rattle.wire.specs.Gap.{gap, gap_bytes, score}
use Rattle.block.specs.declared.summary.Summary.{Summary}

-- ---- the two layouts

-- a body that begins with these bytes is a strip
unfoldable pub is_strip : List ℕ → Bool
is_strip s = eqb (get_or s 0 0) 4

-- the tag of a body
abbrev pub tag_of : (strip : Bool) → ℕ
tag_of true = 4
tag_of false = 3

-- "A body may now be tag 04: all gap numbers first, then all scores, two bytes each, the first posting's score first." Such a body is a strip.
-- A body is read as two runs of bytes. A strip of n postings has its scores in the second, which is its last two bytes for each, and its gap
-- numbers in the first, which is what stands before them. Of any other body the first run is all of it, and a score follows its gap number.
unfoldable pub edge : (strip : Bool) (n : ℕ) → List ℕ → ℕ
edge strip n s = cond strip (length s - 2 * n) (length s)

-- the bytes that the next score begins, k bytes past the front of the first run
abbrev pub score_in : (strip : Bool) (k : ℕ) (g w : List ℕ) → List ℕ
score_in true k g w = w
score_in false k g w = drop k g

-- how many bytes a score takes of the second run
abbrev pub wide : Bool → ℕ
wide true = 2
wide false = 0

-- ---- one posting: how many bytes it takes is told of the first run

-- a posting whose docid is known: its score
abbrev pub with_doc : Bool → ℕ → Read ℕ → Read Post
with_doc true d (got w k) = got (post d w) 0
with_doc false d (got w k) = got (post d w) k
with_doc strip d (stopped k) = stopped k

-- a later posting: "the gap minus one and the score"; a docid that passes the block's greatest is at fault
unfoldable pub gapped : (strip : Bool) (greatest d : ℕ) (g w : List ℕ) → Read ℕ → Read Post
gapped strip greatest d g w (got x k) = cond (leb (d + 1 + x) greatest) (further k (with_doc strip (d + 1 + x) (score (score_in strip k g w)))) (stopped 0)
gapped strip greatest d g w (stopped k) = stopped k

-- the first posting has docid d, the block's least; a later one follows docid d
unfoldable pub posting : (strip : Bool) (greatest : ℕ) (first : Bool) (d : ℕ) (g w : List ℕ) → Read Post
posting strip greatest true d g w = with_doc strip d (score (score_in strip 0 g w))
posting strip greatest false d g w = gapped strip greatest d g w (gap gap_most g)

-- ---- all of them

-- a posting, and those after it
abbrev pub onto : Post → Read (List Post) → Read (List Post)
onto p (got ps k) = got (p ∷ ps) k
onto p (stopped k) = stopped k

abbrev pub and_on : Read Post → (Post → ℕ → Read (List Post)) → Read (List Post)
and_on (got p k) f = further k (onto p (f p k))
and_on (stopped k) f = stopped k

-- n postings, to the last byte of both runs
unfoldable pub posts : (strip : Bool) (greatest n : ℕ) (first : Bool) (d : ℕ) (g w : List ℕ) → Read (List Post)
posts strip greatest zero first d [] [] = got [] 0
posts strip greatest zero first d [] (b ∷ w) = stopped 0
posts strip greatest zero first d (b ∷ g) w = stopped 0
posts strip greatest (suc n) first d g w = and_on (posting strip greatest first d g w) (λ p k. posts strip greatest n false p.doc (drop k g) (drop (wide strip) w))

-- the last docid, from d on, and the largest score, from m on, are the summary's
abbrev pub fits : (greatest top d m : ℕ) → Read (List Post) → Bool
fits greatest top d m (got ps k) = eqb (last_doc d ps) greatest && eqb (top_score m ps) top
fits greatest top d m (stopped k) = false

-- the postings of a body
unfoldable pub body_posts : Summary → List ℕ → Read (List Post)
body_posts m s = posts m.strip m.greatest m.count true m.least (take (edge m.strip m.count s) s) (drop (edge m.strip m.count s) s)

-- "A body is wrong unless it reads, to its last byte, as exactly count postings with scores of 1 or more, the last docid being greatest,
-- and the largest score equal to the summary's."
unfoldable pub right_body : Summary → List ℕ → Bool
right_body m s = fits m.greatest m.top 0 0 (body_posts m s)

-- the postings as far as they read: all, or those before the first fault
abbrev pub read_on : Read Post → (Post → ℕ → List Post) → List Post
read_on (got p k) f = p ∷ f p k
read_on (stopped k) f = []

unfoldable pub read_to : (strip : Bool) (greatest n : ℕ) (first : Bool) (d : ℕ) (g w : List ℕ) → List Post
read_to strip greatest zero first d g w = []
read_to strip greatest (suc n) first d g w = read_on (posting strip greatest first d g w) (λ p k. read_to strip greatest n false p.doc (drop k g) (drop (wide strip) w))

unfoldable pub body_run : Summary → List ℕ → List Post
body_run m s = read_to m.strip m.greatest m.count true m.least (take (edge m.strip m.count s) s) (drop (edge m.strip m.count s) s)

-- the contract of reading a body into two lent runs, from `at` on: as far as it reads, and whether it is right
pub record ReadsInto (m : Summary) (s : List ℕ) (at : ℕ) (ds ss ds' ss' : List ℕ) (r : Bool) : Type 0 where
  pub right : r ≡ right_body m s
  pub docids : ds' ≡ sets ds at (docs (body_run m s))
  pub scored : ss' ≡ sets ss at (scores (body_run m s))

-- ---- writing

-- a score that follows its gap number, and one that stands in a strip
abbrev pub in_turn : Bool → ℕ → List ℕ
in_turn true w = []
in_turn false w = be 2 w

abbrev pub in_strip : Bool → ℕ → List ℕ
in_strip true w = be 2 w
in_strip false w = []

-- the first run of the postings after docid d
unfoldable pub later_bytes : Bool → ℕ → List Post → List ℕ
later_bytes strip d [] = []
later_bytes strip d (p ∷ ps) = gap_bytes (p.doc - d - 1) ++ (in_turn strip p.score ++ later_bytes strip p.doc ps)

-- "the first posting's score, then for each later posting the gap minus one and the score"; of a strip the gap alone
unfoldable pub front_bytes : Bool → List Post → List ℕ
front_bytes strip [] = []
front_bytes strip (p ∷ ps) = in_turn strip p.score ++ later_bytes strip p.doc ps

-- a strip's scores, "two bytes each, the first posting's score first"
unfoldable pub back_bytes : Bool → List Post → List ℕ
back_bytes strip [] = []
back_bytes strip (p ∷ ps) = in_strip strip p.score ++ back_bytes strip ps

unfoldable pub body_bytes : Bool → List Post → List ℕ
body_bytes strip ps = front_bytes strip ps ++ back_bytes strip ps
