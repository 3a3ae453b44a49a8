-- "List reading 6/7, 12, 8 (that list), 9." Assumes nothing.
use Rattle.std.specs.Prelude.{ℕ, ◌+◌, min, cond, List, [], ◌∷◌, leb, length, Option, Some, None, Result}
use Rattle.model.specs.Outcome.{Outcome, refused, done, and_then}
use Rattle.model.specs.Post.{Post, docs, scores}
use Rattle.list.specs.Answer.{Gives}
use Rattle.model.specs.declared.refusal.Refusal.{Refusal}
use Rattle.shelf.specs.Walk.{Block, posts_of}
use Rattle.lookup.specs.Find.{found}
use Rattle.shelf.specs.Check.{bad_body}

-- how many postings a list's summaries say it has
abbrev pub count_of : List Block → ℕ
count_of [] = 0
count_of (b ∷ bs) = b.sum.count + count_of bs

-- the list's postings, where no body is wrong; the first wrong body's tag otherwise
abbrev pub held_by : List Block → Option ℕ → Outcome (List Post)
held_by bs None = done (posts_of bs)
held_by bs (Some o) = refused 8 o

-- the postings, where two runs of d and w numbers have room for them
abbrev pub in_room : (d w : ℕ) → List Post → Outcome (List Post)
in_room d w ps = cond (leb (length ps) (min d w)) (done ps) (refused 9 0)

abbrev pub read_blocks : List Block → (d w : ℕ) → Outcome (List Post)
read_blocks bs d w = and_then (held_by bs (bad_body bs)) (in_room d w)

-- the postings of the list of term t, for two runs of d and w numbers, or the first refusal in that order
unfoldable pub read_list : (t : ℕ) → List ℕ → (d w : ℕ) → Outcome (List Post)
read_list t s d w = and_then (found t s) (λ l. read_blocks l.blocks d w)

-- what two lent runs get of them
abbrev pub docids_of : Outcome (List Post) → Outcome (List ℕ)
docids_of o = and_then o (λ ps. done (docs ps))

abbrev pub scores_of : Outcome (List Post) → Outcome (List ℕ)
scores_of o = and_then o (λ ps. done (scores ps))

-- the contract of a reader: its answer, and both runs that were lent to it
pub record Reads (o : Outcome (List Post)) (ds ss ds' ss' : List ℕ) (r : Result ℕ Refusal) : Type 0 where
  pub docids : Gives (docids_of o) ds ds' r
  pub scored : Gives (scores_of o) ss ss' r
