-- An outcome as C gets it: a number that is returned, and a value that is stored through a reference. Assumes nothing.
use Rattle.std.specs.Prelude.{ℕ, ◌≡◌, List}
use Rattle.model.specs.Outcome.{Outcome, refused, done}
use Rattle.list.specs.Answer.{length_of, after}

-- returned: the refusal's number; 0 where there is none
abbrev pub number_of : Outcome ℕ → ℕ
number_of (refused n o) = n
number_of (done x) = 0

-- stored: the refusal's offset, or the result
abbrev pub value_of : Outcome ℕ → ℕ
value_of (refused n o) = o
value_of (done x) = x

-- an outcome whose result is one number of what was found
abbrev pub giving : {A : Type 0} → (A → ℕ) → Outcome A → Outcome ℕ
giving f (refused n o) = refused n o
giving f (done x) = done (f x)

-- the contract of each entry point: what it returns, and what it stores
pub record Reports (o : Outcome ℕ) (number value : ℕ) : Type 0 where
  pub returned : number ≡ number_of o
  pub stored : value ≡ value_of o

-- of one that fills a lent run: it stores how many elements it wrote, and the run holds them in front, or is as it was
pub record Fills (o : Outcome (List ℕ)) (old new : List ℕ) (number value : ℕ) : Type 0 where
  pub reports : Reports (length_of o) number value
  pub holds : new ≡ after o old
