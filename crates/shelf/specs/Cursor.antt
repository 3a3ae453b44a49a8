-- The walk as a place that is handed on, list by list. Assumes nothing.
use Rattle.std.specs.Prelude.{ℕ, zero, suc, ◌+◌, List, [], ◌∷◌, cond, leb, length, drop, ◌≡◌, Option, Some, None, Result, Ok, Err}
use Rattle.model.specs.Limits.{max_lists, max_shelf}
use Rattle.model.specs.Outcome.{Outcome, refused, done}
use Rattle.model.specs.Refusal.{number}
use Rattle.model.specs.declared.refusal.Refusal.{Refusal}
use Rattle.shelf.specs.Walk.{Listing, blocks_at, list, lists}
use Rattle.shelf.specs.declared.walk.Place.{Place}
use Rattle.shelf.specs.declared.walk.Walk.{Walk}
use Rattle.shelf.specs.Step.{WalkStep}
use Rattle.shelf.specs.Step as step

-- before the first list
unfoldable pub start : Walk
start = record { at = 0; floor = 0; left = max_lists }

-- past a list, "lists in strictly rising term number": n may still come
abbrev pub past : ℕ → Place → Walk
past n p = record { at = p.next; floor = p.term + 1; left = n }

abbrev pub stepped : ℕ → Outcome Listing → WalkStep
stepped n (done l) = step.List l.place (past n l.place)
stepped n (refused k o) = step.Fault k o

-- with no byte left the walk is at its end; where a byte is left a list is due, and a "1,025th list" is refused
unfoldable pub step_of : (left floor at : ℕ) → List ℕ → WalkStep
step_of left floor at [] = step.End
step_of zero floor at (b ∷ s) = step.Fault 6 at
step_of (suc n) floor at (b ∷ s) = stepped n (list floor at (b ∷ s))

-- what the walk finds at a place; "shelf over 1,048,576 bytes (offset 0)"
unfoldable pub walk_step : List ℕ → Walk → WalkStep
walk_step s w = cond (leb (length s) max_shelf) (step_of w.left w.floor w.at (drop w.at s)) (step.Fault 6 0)

-- what the walk's next answer is, and the walk past it: where no list is found it stays
abbrev pub Walks : WalkStep → Walk → Result (Option Place) Refusal → Walk → Type 0
Walks found w (Ok (Some p)) next = found ≡ step.List p next
Walks found w (Ok None) next = (found ≡ step.End) × (next ≡ w)
Walks found w (Err r) next = (found ≡ step.Fault (number r.fault) r.offset) × (next ≡ w)

-- what is left of the walk
unfoldable pub lists_at : List ℕ → Walk → Outcome (List Listing)
lists_at s w = cond (leb (length s) max_shelf) (lists w.left w.floor w.at (drop w.at s)) (refused 6 0)

-- the list that was found at a place, with its blocks
abbrev pub listing_at : List ℕ → Place → Listing
listing_at s p = record { place = p; blocks = blocks_at s p.at p.count }
