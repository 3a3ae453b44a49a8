-- "While a block is read, the reading place moves posting by posting and is handed on." Assumes nothing.
use Rattle.std.specs.Prelude.{ℕ, zero, suc, ◌+◌, ◌-◌, List, [], ◌∷◌, Bool, true, false, drop}
use Rattle.model.specs.Post.{Post}
use Rattle.wire.specs.Read.{Read, got, stopped}
use Rattle.wire.specs.Gap.{score}
use Rattle.block.specs.Body.{score_in, wide, with_doc, posting, posts, read_to}
use Rattle.block.specs.declared.summary.Summary.{Summary}
use Rattle.block.specs.declared.cursor.Cursor.{Cursor}
use Rattle.block.specs.declared.cursor.Step.{Step}
use Rattle.block.specs.declared.cursor.Step.TheVariants.{Posting, End, Bad}

-- before the first posting
unfoldable pub fresh : Summary → Cursor
fresh m = record { at = 0; points = 0; doc = m.least; greatest = m.greatest; left = m.count; first = true; strip = m.strip }

-- past a posting, n are left
abbrev pub past : (strip : Bool) (greatest n at points : ℕ) → Post → Cursor
past strip greatest n at points p = record { at = at; points = points; doc = p.doc; greatest = greatest; left = n; first = false; strip = strip }

-- at a posting, past its gap number and with its docid: its score is still to be read
abbrev pub moved : Cursor → (at d : ℕ) → Cursor
moved c at d = record { at = at; points = c.points; doc = d; greatest = c.greatest; left = c.left - 1; first = false; strip = c.strip }

abbrev pub stepped : (strip : Bool) (greatest n at points : ℕ) → Read Post → Step
stepped strip greatest n at points (got p k) = Posting p.doc p.score (past strip greatest n (at + k) (points + wide strip) p)
stepped strip greatest n at points (stopped k) = Bad

-- with no posting left, no byte may be left
abbrev pub ended : (g w : List ℕ) → Step
ended [] [] = End
ended [] (b ∷ w) = Bad
ended (b ∷ g) w = Bad

unfoldable pub step_of : (strip : Bool) (greatest left at points : ℕ) (first : Bool) (d : ℕ) (g w : List ℕ) → Step
step_of strip greatest zero at points first d g w = ended g w
step_of strip greatest (suc n) at points first d g w = stepped strip greatest n at points (posting strip greatest first d g w)

-- what a cursor finds in a body's two runs
unfoldable pub step_at : (g w : List ℕ) → Cursor → Step
step_at g w c = step_of c.strip c.greatest c.left c.at c.points c.first c.doc (drop c.at g) (drop c.points w)

-- a posting whose docid is the cursor's, and whose score stands at its places
unfoldable pub scored_at : (g w : List ℕ) → Cursor → Step
scored_at g w c =
    stepped c.strip c.greatest c.left c.at c.points (with_doc c.strip c.doc (score (score_in c.strip 0 (drop c.at g) (drop c.points w))))

-- the postings that are left
unfoldable pub posts_at : (g w : List ℕ) → Cursor → Read (List Post)
posts_at g w c = posts c.strip c.greatest c.left c.first c.doc (drop c.at g) (drop c.points w)

-- the same as far as they read
unfoldable pub run_at : (g w : List ℕ) → Cursor → List Post
run_at g w c = read_to c.strip c.greatest c.left c.first c.doc (drop c.at g) (drop c.points w)
