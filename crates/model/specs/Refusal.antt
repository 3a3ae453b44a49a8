-- A refusal in the code, and its number. Assumes nothing.
use Rattle.std.specs.Prelude.{ℕ, Result, Ok, Err}
use Rattle.model.specs.Outcome.{Outcome, refused, done}
use Rattle.model.specs.declared.refusal.Fault.{Fault}
use Rattle.model.specs.declared.refusal.Fault.TheVariants as fault
use Rattle.model.specs.declared.refusal.Refusal.{Refusal}

-- "Refusal numbers"
abbrev pub number : Fault → ℕ
number fault.QueryField = 1
number fault.HitCount = 2
number fault.TermCount = 3
number fault.Weight = 4
number fault.RepeatedTerm = 5
number fault.ShelfField = 6
number fault.Summary = 7
number fault.Body = 8
number fault.Room = 9
number fault.Posting = 10
number fault.Size = 11
number fault.Absent = 12
number fault.Input = 13

abbrev pub refusal : Fault → ℕ → Refusal
refusal f at = record { fault = f; offset = at }

-- what an answer of the code is in the paper: the value, or the refusal's number and offset
abbrev pub outcome_of : {A : Type 0} → Result A Refusal → Outcome A
outcome_of (Ok x) = done x
outcome_of (Err r) = refused (number r.fault) r.offset
