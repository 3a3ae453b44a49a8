-- `wire::gap::gap` meets its contract: no byte, one byte, or what `gap_in` finds. Assumes nothing.
use native.Mathlib.Omega.{arith}
use mathlib.Core.Path.{sym}
use Rattle.wire.proofs.Gaps.{gap-end, gap-last}
use Rattle.wire.proofs.gap.gap.Goals as goal

pub returns-then-s-at : goal.returns-then-s-at
returns-then-s-at c = let a = c.args in sym (gap-end a.most a.s.now a.at c.if-s-at.true)

pub returns-then-b-lt128 : goal.returns-then-b-lt128
returns-then-b-lt128 c =
    let a = c.args in
    sym (gap-last a.most a.s.now a.at (λ e. omega (arith, c.requires.0)) (omega arith) c.if-b-lt128.true)
