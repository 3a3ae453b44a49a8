-- `block::cursor::Cursor::next` meets its contract: each return is a law of `Steps` at the tests that led there. Assumes nothing.
use Rattle.wire.specs.Gap.{gap_at}
use Rattle.std.specs.Prelude.{Ok, Err}
use Rattle.wire.proofs.Gaps.{gap_below}
use Rattle.block.proofs.Steps.{step_end, step_over, step_spare, step-first, step-gap, step-above, step-not}
use native.Mathlib.Nat.{le_refl}
use native.Mathlib.Omega.{arith}
use mathlib.Core.Path.{◌≡◌, sym}
use Rattle.block.proofs.cursor.Cursor.next.Goals as goal

pub returns-then-at-gaps : goal.returns-then-at-gaps
returns-then-at-gaps c = let a = c.args in sym (step_over a.gaps.now a.points.now a.self c.if-self-eq0.true c.if-at-gaps.true)

pub returns-then-self-points : goal.returns-then-self-points
returns-then-self-points c = let a = c.args in sym (step_spare a.gaps.now a.points.now a.self c.if-self-eq0.true c.if-at-gaps.false c.if-self-points.true)

pub returns-then-self-eq0 : goal.returns-then-self-eq0
returns-then-self-eq0 c = let a = c.args in sym (step_end a.gaps.now a.points.now a.self c.if-self-eq0.true c.if-at-gaps.false c.if-self-points.false)

pub returns-then-self : goal.returns-then-self
returns-then-self c =
    let a = c.args in
    rw (step-first a.gaps.now a.points.now a.self c.if-self-eq0.false c.if-self.true, ← c.at_posting.ensures) c.scored.ensures

pub overflow_add-d-in-Ok : goal.overflow_add-d-in-Ok
overflow_add-d-in-Ok c =
    let found : let a = c.args in
    gap_at 4 a.gaps.now a.self.at ≡ Ok (c.in-Ok.g, c.in-Ok.past) = cc in
    let a = c.args in
    omega (arith, gap_below 4 4 a.gaps.now a.self.at c.in-Ok.g c.in-Ok.past (le_refl 4) (found))

pub returns-then-self-d : goal.returns-then-self-d
returns-then-self-d c =
    let found : let a = c.args in
    gap_at 4 a.gaps.now a.self.at ≡ Ok (c.in-Ok.g, c.in-Ok.past) = cc in
    let a = c.args in
    sym (step-above a.gaps.now a.points.now a.self c.if-self-eq0.false c.if-self.false c.in-Ok.g c.in-Ok.past (found) c.if-self-d.true)

pub returns-else-self-d : goal.returns-else-self-d
returns-else-self-d c =
    let found : let a = c.args in
    gap_at 4 a.gaps.now a.self.at ≡ Ok (c.in-Ok.g, c.in-Ok.past) = cc in
    let a = c.args in
    rw (step-gap a.gaps.now a.points.now a.self c.if-self-eq0.false c.if-self.false c.in-Ok.g c.in-Ok.past (found) c.if-self-d.false, ← c.at_posting-in-Ok.ensures) c.scored-in-Ok.ensures

pub returns-in-Err : goal.returns-in-Err
returns-in-Err c =
    let a = c.args in
    let f : gap_at 4 a.gaps.now a.self.at ≡ Err c.in-Err.fault = cc in
    sym (step-not a.gaps.now a.points.now a.self c.if-self-eq0.false c.if-self.false c.in-Err.fault f)
