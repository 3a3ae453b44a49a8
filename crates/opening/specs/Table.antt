-- The query's blocks as the search holds them: numbered, list after list. Assumes nothing.
use Rattle.std.specs.Prelude.{ℕ, zero, suc, ◌-◌, ◌*◌, ◌≤◌, cond, List, [], ◌∷◌, length, get_or, drop}
use Rattle.model.specs.Limits.{max_docid, per_list, max_terms}
use Rattle.model.specs.Post.{Post}
use Rattle.model.specs.Outcome.{Outcome, refused, done}
use Rattle.model.specs.Runs.{All}
use Rattle.wire.specs.Field.{field_value}
use Rattle.block.specs.Body.{is_strip, right_body, body_run}
use Rattle.block.specs.declared.summary.Summary.{Summary}
use Rattle.prune.specs.Cut.{Block, Listing, Rises}

-- what stands at the n numbers from f on
abbrev pub numbered : {A : Type 0} → (ℕ → A) → (n f : ℕ) → List A
numbered at zero f = []
numbered at (suc n) f = at f ∷ numbered at n (suc f)

-- a number past every block
abbrev pub gap : ℕ
gap = max_terms * per_list

-- where list t's blocks begin: where those of the list before it end
abbrev pub from_of : (ends : List ℕ) → ℕ → ℕ
from_of ends zero = 0
from_of ends (suc t) = get_or ends t 0

-- list t of the lists whose blocks stand one after another, each up to its end
abbrev pub list_in : (ℕ → Block) → (ends weights : List ℕ) → ℕ → Listing
list_in block ends weights t = record { weight = get_or weights t 0; blocks = numbered block (get_or ends t 0 - from_of ends t) (from_of ends t) }

abbrev pub lists_in : (ℕ → Block) → (ends weights : List ℕ) → List Listing
lists_in block ends weights = numbered (list_in block ends weights) (length ends) 0

-- ---- the blocks by the runs of their numbers: least docid, greatest docid, greatest score, posting count, offset of the body's tag

abbrev pub sum_in : (shelf los his tops counts bodies : List ℕ) → ℕ → Summary
sum_in shelf los his tops counts bodies i =
    record { least = get_or los i 0; greatest = get_or his i 0; top = get_or tops i 0; count = get_or counts i 0; strip = is_strip (drop (get_or bodies i 0) shelf) }

-- what the body whose tag stands at a place reads as
abbrev pub body_in : (shelf : List ℕ) → Summary → (at : ℕ) → Outcome (List Post)
body_in shelf m at = cond (right_body m (field_value (drop at shelf))) (done (body_run m (field_value (drop at shelf)))) (refused 8 at)

abbrev pub block_in : (shelf los his tops counts bodies : List ℕ) → ℕ → Block
block_in shelf los his tops counts bodies i =
    record { least = get_or los i 0; greatest = get_or his i 0; top = get_or tops i 0; body = body_in shelf (sum_in shelf los his tops counts bodies i) (get_or bodies i 0) }

-- the same by their summaries alone, which is all that cuts and ceilings look at
abbrev pub sum_block : (los his tops : List ℕ) → ℕ → Block
sum_block los his tops i = record { least = get_or los i 0; greatest = get_or his i 0; top = get_or tops i 0; body = done [] }

-- ---- what the walk has seen to

-- the ends do not fall, and no list has more than 64 blocks, which rise up to the greatest docid
pub record Ends (block : ℕ → Block) (ends : List ℕ) (n t : ℕ) : Type 0 where
  pub order : from_of ends t ≤ get_or ends t 0
  pub most : get_or ends t 0 - from_of ends t ≤ per_list
  pub upto : get_or ends t 0 ≤ n
  pub rises : Rises 0 (numbered block (get_or ends t 0 - from_of ends t) (from_of ends t))
  pub below : All (λ b. b.greatest ≤ max_docid) (numbered block (get_or ends t 0 - from_of ends t) (from_of ends t))
