-- What is returned and stored for an outcome, from the called function's answer. Assumes nothing.
use Prim.Native.Nat.{ℕ}
use mathlib.Core.List.{List}
use Rattle.std.specs.Prelude.{Result}
use Rattle.model.specs.Outcome.{Outcome}
use Rattle.model.specs.Refusal.{outcome_of}
use Rattle.model.specs.declared.refusal.Refusal.{Refusal}
use Rattle.list.specs.Answer.{Gives}
use Rattle.embed.specs.Report.{Reports, Fills}

-- ---- a run that is filled

pub fills : {o : Outcome (List ℕ)} {old new : List ℕ} {r : Result ℕ Refusal} {number value : ℕ} →
    Gives o old new r → Reports (outcome_of r) number value → Fills o old new number value
fills {o} {number} {value} g p =
    record {
      reports = rw g.answers at p;
      holds = g.holds;
    }
