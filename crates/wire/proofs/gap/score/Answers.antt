-- `wire::score` meets its contract: each return is a law of `Gaps` at the tests that led there. Assumes nothing.
use Rattle.wire.proofs.Gaps.{score-short, score-zero, score-there}
use native.Mathlib.Omega.{arith}
use mathlib.Core.Path.{sym, ◌∙◌}
use Rattle.wire.proofs.gap.score.Goals as goal

pub returns-then-n-at : goal.returns-then-n-at
returns-then-n-at c = let a = c.args in sym (score-short a.s.now a.at (omega arith))

pub returns-then-n-at-lt2 : goal.returns-then-n-at-lt2
returns-then-n-at-lt2 c = let a = c.args in sym (score-short a.s.now a.at (omega arith))

pub returns-then-points-eq0 : goal.returns-then-points-eq0
returns-then-points-eq0 c = let a = c.args in sym (score-zero a.s.now a.at (omega arith) (omega (arith, c.be2-points.ensures)))

pub returns-else-points-eq0 : goal.returns-else-points-eq0
returns-else-points-eq0 c = let a = c.args in
    rw c.be2-points.ensures
    (sym (score-there a.s.now a.at (omega arith) (λ e. c.if-points-eq0.false (c.be2-points.ensures ∙ e))))
