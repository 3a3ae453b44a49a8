-- The private answers of the walk's code, by the walk's definitions. Assumes nothing.
use Rattle.std.specs.Prelude.{ℕ, ◌+◌, ◌*◌, ◌≤◌, ◌≡◌, List, cond, length, drop, Option, Some, None}
use Rattle.model.specs.Limits.{per_list}
use Rattle.model.specs.Outcome.{Outcome, refused, done}
use Rattle.shelf.specs.Walk.{Listing, head_term, head_count, right_head, bodies}
use Rattle.shelf.specs.declared.walk.Place.{Place}

unfoldable pub head_at : (floor : ℕ) → List ℕ → ℕ → Option (ℕ × ℕ)
head_at floor s at = cond (right_head floor (drop at s)) (Some (head_term (drop at s), head_count (drop at s))) None

-- a list's place, of the walk's answer
abbrev pub placed : Outcome Listing → Outcome Place
placed (done l) = done l.place
placed (refused n o) = refused n o

-- a list of `count` blocks that was walked: there is room for its summaries, and its bodies are whole, up to `next`
pub record Stands (s : List ℕ) (at count next : ℕ) : Type 0 where
  pub few : count ≤ per_list
  pub room : at + 8 + 12 * count ≤ length s
  pub bodied : bodies count (at + 8 + 12 * count) (drop (at + 8 + 12 * count) s) ≡ done next

abbrev pub Ready : List ℕ → Place → Type 0
Ready s p = Stands s p.at p.count p.next

abbrev pub ReadyAt : List ℕ → (at count : ℕ) → Type 0
ReadyAt s at count = (next : ℕ) × Stands s at count next
