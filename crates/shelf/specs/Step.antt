-- What the walk finds at a place: a list and the walk past it; the shelf's end; or a refusal, its number and its offset. Assumes nothing.
use Rattle.std.specs.Prelude.{ℕ}
use Rattle.shelf.specs.declared.walk.Place.{Place}
use Rattle.shelf.specs.declared.walk.Walk.{Walk}

pub data WalkStep : Type 0 where
  List : Place → Walk → WalkStep
  End : WalkStep
  Fault : ℕ → ℕ → WalkStep
