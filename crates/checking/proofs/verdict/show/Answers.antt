-- `checking::verdict::show` meets its contract: what the checker found is printed. Assumes nothing.
use mathlib.Core.Path.{subst}
use Rattle.model.specs.Outcome.{Outcome}
use Rattle.model.specs.Runs.{Holds}
use Rattle.checking.specs.Verdict.{verdict_text, checked_text}
use Rattle.checking.proofs.verdict.show.Goals as goal

pub returns : goal.returns
unfolding checked_text
returns c =
    let a = c.args in
    subst (λ (o : Outcome (Unit {0})). Holds a.out.now (verdict_text o) c.print.new.out c.print.result) c.check-found.ensures c.print.ensures
