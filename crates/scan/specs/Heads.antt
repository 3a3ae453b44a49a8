-- Lists read out of two buffers: what a head still has, the smallest docid, the sum at it, the heads moved on. Assumes nothing.
use Rattle.std.specs.Prelude.{ℕ, zero, suc, ◌+◌, ◌*◌, ◌≤◌, ◌<◌, min, ◌≡◌, cond, List, [], ◌∷◌, map, length, get_or, ltb, eqb}
use Rattle.std.proofs.Math.Seq.{slice}
use Rattle.model.specs.Limits.{per_block, max_terms}
use Rattle.model.specs.Post.{Post, post, postings}
use Rattle.model.specs.Runs.{All}
use Rattle.rank.specs.Match.{Term}
use Rattle.rank.specs.Run.{none, skip_term}
use Rattle.scan.specs.declared.head.Head.{Head}

-- a buffer has a part for each list of a query, and a part has room for a block
abbrev pub roomy : ℕ
roomy = max_terms * per_block

-- where list t's part begins
abbrev pub part_of : ℕ → ℕ
part_of t = per_block * t

-- what the code reads past an array's end
abbrev pub blank : Head
blank = record { doc = 0; score = 0; weight = 0; at = 0; end = 0 }

-- the smallest docid among the heads
abbrev pub least : List Head → ℕ
least [] = none
least (h ∷ hs) = min h.doc (least hs)

-- the sum of weight times score over the heads that stand at a docid
abbrev pub sum_at : ℕ → List Head → ℕ
sum_at d [] = 0
sum_at d (h ∷ hs) = cond (eqb h.doc d) (h.weight * h.score) 0 + sum_at d hs

-- the postings that stand in the buffers from an index up to another
unfoldable pub between : (ds ss : List ℕ) (from upto : ℕ) → List Post
between ds ss from upto = postings (slice from upto ds) (slice from upto ss)

-- what a head has to read lies in the buffers, and its docids are below `none`
pub record InBuffers (ds ss : List ℕ) (h : Head) : Type 0 where
  pub docids : length ds ≡ roomy
  pub scored : length ss ≡ roomy
  pub inside : h.end ≤ roomy
  pub below : All (λ d. d < none) (slice h.at h.end ds)

-- it lies in list t's part
pub record OwnPart (t : ℕ) (h : Head) : Type 0 where
  pub from : part_of t ≤ h.at
  pub upto : h.end ≤ part_of t + per_block

-- each head lies in its list's part, from list t on
abbrev pub OwnParts : ℕ → List Head → Type 0
OwnParts t [] = Unit {0}
OwnParts t (h ∷ hs) = OwnPart t h × OwnParts (suc t) hs

-- a head moved on to its list's next posting, or to its end
abbrev pub at_end : Head → Head
at_end h = record { doc = none; score = 0; weight = h.weight; at = h.at; end = h.end }

unfoldable pub next_head : (ds ss : List ℕ) → Head → Head
next_head ds ss h =
    cond (ltb h.at h.end) (record { doc = get_or ds h.at 0; score = get_or ss h.at 0; weight = h.weight; at = h.at + 1; end = h.end }) (at_end h)

abbrev pub step_if : (ds ss : List ℕ) → ℕ → Head → Head
step_if ds ss d h = cond (eqb h.doc d) (next_head ds ss h) h

-- What a head still has: the posting it stands at, and those it has to read
unfoldable pub head_posts : (ds ss : List ℕ) → Head → List Post
head_posts ds ss h = cond (ltb h.doc none) (post h.doc h.score ∷ between ds ss h.at h.end) []

abbrev pub term_of : (ds ss : List ℕ) → Head → Term
term_of ds ss h = record { weight = h.weight; posts = head_posts ds ss h }

abbrev pub terms : (ds ss : List ℕ) → List Head → List Term
terms ds ss hs = map (term_of ds ss) hs

-- a head moved on while it stands below a docid, that many times at most
abbrev pub move_on : (ds ss : List ℕ) (most first : ℕ) → Head → Head
move_on ds ss zero first h = h
move_on ds ss (suc n) first h = cond (ltb h.doc first) (move_on ds ss n first (next_head ds ss h)) h

-- to its list's first posting from that docid on, or to its end
unfoldable pub skip_head : (ds ss : List ℕ) (first : ℕ) → Head → Head
skip_head ds ss first h = move_on ds ss (length (head_posts ds ss h)) first h

-- the contract of moving a head there
pub record Skipped (ds ss : List ℕ) (first : ℕ) (h r : Head) : Type 0 where
  pub moved : r ≡ skip_head ds ss first h
  pub inside : InBuffers ds ss r
  pub same : term_of ds ss r ≡ skip_term first (term_of ds ss h)
  pub parts : (t : ℕ) → OwnPart t h → OwnPart t r
