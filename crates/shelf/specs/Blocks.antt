-- The blocks of a list, one after another: what is left of them at a reading place. Assumes nothing.
use Rattle.std.specs.Prelude.{ℕ, ◌+◌, ◌-◌, ◌*◌, ◌≤◌, ◌<◌, ◌≡◌, Bool, List, [], ◌∷◌, length, take, drop, Option, Some, None}
use Rattle.model.specs.Outcome.{done}
use Rattle.shelf.specs.Walk.{Block, bodies_of, blocks_of}
use Rattle.shelf.specs.declared.walk.Place.{Place}
use Rattle.shelf.specs.declared.blocks.Reading.{Reading}
use Rattle.shelf.specs.declared.blocks.BlockAt.{BlockAt}

-- before the first block of a list
abbrev pub reading_of : Place → Reading
reading_of p = record { sum = p.at + 8; body = p.at + 8 + 12 * p.count; left = p.count }

-- the blocks that are left
unfoldable pub blocks_left : List ℕ → Reading → List Block
blocks_left s r = blocks_of r.left r.sum (drop r.sum s) r.body (drop r.body s)

-- the walk passed them: there is room for the summaries, and the bodies are whole and of one layout
pub record Rests (s : List ℕ) (r : Reading) : Type 0 where
  pub room : r.sum + 12 * r.left ≤ length s
  pub strip : Bool
  pub end : ℕ
  pub bodied : bodies_of strip r.left r.body (drop r.body s) ≡ done end

-- a block was found, whose body is the shelf's bytes from v to e, and next is past it
pub record Finds (s : List ℕ) (r : Reading) (b : Block) (v e : ℕ) (next : Reading) : Type 0 where
  pub left : blocks_left s r ≡ b ∷ blocks_left s next
  pub onward : next ≡ record { sum = r.sum + 12; body = e; left = r.left - 1 }
  pub fewer : next.left < r.left
  pub rests : Rests s next
  pub order : v ≤ e
  pub inside : e ≤ length s
  pub tag : b.body_at + 3 ≡ v
  pub body : b.body ≡ take (e - v) (drop v s)

-- what the next step gives, and what is left after it
abbrev pub Steps : List ℕ → Reading → Option BlockAt → Reading → Type 0
Steps s r (Some x) next = (b : Block) × (b.sum ≡ x.summary) × Finds s r b x.start x.end next
Steps s r None next = (blocks_left s r ≡ []) × (r.left ≡ 0) × (next ≡ r)
