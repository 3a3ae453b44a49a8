-- What is answered where a refusal is passed up by `?`. Assumes nothing.
use mathlib.Core.Path.{◌≡◌}
use Rattle.std.specs.Prelude.{Result, IsErrAnd}
use Rattle.std.proofs.lemmas.Result.{err_from_is_err_and}
use Rattle.model.specs.Outcome.{Outcome, refused}
use Rattle.model.specs.Refusal.{number, outcome_of}
use Rattle.model.specs.declared.refusal.Refusal.{Refusal}

pub refused_up : {A : Type 0} (x : Result A Refusal) (r : Refusal) → IsErrAnd x (λ y. y ≡ r) → outcome_of x ≡ refused (number r.fault) r.offset
refused_up x r h = let p = err_from_is_err_and x h in rw (p.1, p.2)
