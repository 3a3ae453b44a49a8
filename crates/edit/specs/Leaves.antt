-- What an accepted edit leaves. Assumes nothing.
use Rattle.std.specs.Prelude.{ℕ, ◌≡◌, List}
use Rattle.model.specs.Outcome.{done}
use Rattle.model.specs.Post.{top_score}
use Rattle.block.specs.Body.{body_posts}
use Rattle.shelf.specs.Walk.{Block, Listing, read_or}
use Rattle.shelf.specs.Check.{checked}
use Rattle.list.specs.Write.{words_of}
use Rattle.change.specs.Edits.{Edit, applied}
use Rattle.change.specs.Bytes.{pieces, changed}

-- the result v is sound; its lists are the old ones, each with its bytes as they stood, but for those that the edit changed; and what it
-- holds is what the old shelf held, with the edit applied
pub record Leaves (e : Edit) (s : List ℕ) (old : List Listing) (v : List ℕ) : Type 0 where
  pub new : List Listing
  pub sound : checked v ≡ done new
  pub kept : pieces v new ≡ changed e (pieces s old)
  pub holds : words_of new ≡ applied e (words_of old)

-- the summary's greatest score is the largest of its body's scores
abbrev pub Capped : Block → Type 0
Capped b = top_score 0 (read_or (body_posts b.sum b.body)) ≡ b.sum.top
