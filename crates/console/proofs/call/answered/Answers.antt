-- `console::call::answered` meets its contract: each return is a law of `Judged` at what the answer was. Assumes nothing.
use mathlib.Core.Path.{sym, ◌∙◌}
use Rattle.console.proofs.Judged.{call-end, call-moves, call-again, call-fails}
use Rattle.console.proofs.call.answered.Goals as goal

pub returns-in-Ok-eq0 : goal.returns-in-Ok-eq0
returns-in-Ok-eq0 c = call-end c.args.answer c.args.room (cc)

pub returns-in-Ok : goal.returns-in-Ok
returns-in-Ok c = call-moves c.args.answer c.args.room c.in-Ok.n c.min.result c.in-Ok.is (rw c.in-Ok.is at c.in-Ok.n-test.1) c.min.ensures

pub returns-in-Interrupted : goal.returns-in-Interrupted
returns-in-Interrupted c = call-again c.args.answer c.args.room c.in-Err.e c.in-Err.is (sym c.kind.ensures ∙ c.in-Interrupted.is)

pub returns-in_default : goal.returns-in_default
returns-in_default c = call-fails c.args.answer c.args.room c.in-Err.e c.in-Err.is (λ f. c.in_default.not-Interrupted (c.kind.ensures ∙ f))
