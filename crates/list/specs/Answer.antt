-- What an entry point answers that fills a lent run, and what the run holds then. Assumes nothing.
use Rattle.std.specs.Prelude.{ℕ, ◌≡◌, List, ◌++◌, length, drop, Result}
use Rattle.model.specs.Outcome.{Outcome, refused, done}
use Rattle.model.specs.Refusal.{outcome_of}
use Rattle.model.specs.declared.refusal.Refusal.{Refusal}

abbrev pub length_of : Outcome (List ℕ) → Outcome ℕ
length_of (done v) = done (length v)
length_of (refused n o) = refused n o

-- the run after it: what is written stands in front, and a refusal leaves the run as it was
abbrev pub after : Outcome (List ℕ) → List ℕ → List ℕ
after (done v) l = v ++ drop (length v) l
after (refused n o) l = l

-- the contract of a writer: its answer, and the run that was lent to it
pub record Gives (o : Outcome (List ℕ)) (old new : List ℕ) (r : Result ℕ Refusal) : Type 0 where
  pub answers : outcome_of r ≡ length_of o
  pub holds : new ≡ after o old
