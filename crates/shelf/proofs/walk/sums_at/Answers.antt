-- `shelf::walk::sums_at` meets its contract. The invariant: the answer for all is the answer for those that are left. Assumes nothing.
use Rattle.block.specs.Summary.{sum_at, right_sum}
use Rattle.std.specs.Prelude.{Some, None}
use Rattle.block.proofs.Summaries.{sum-found, sum_missing, sum_room}
use Rattle.shelf.proofs.Walks.{sums_none, sums-step, sums-wrong, sums_missing}
use native.Mathlib.Omega.{arith}
use mathlib.Core.List.{List}
use Prim.Native.Nat.{ℕ, ◌+◌, ◌-◌, ◌<◌}
use Rattle.shelf.specs.Walk.{sums}
use Rattle.block.specs.declared.summary.Summary.{Summary}
use mathlib.Core.Path.{◌≡◌, sym, ◌∙◌}
use mathlib.Core.Bool.{true, false}
use lib.ListN.{drop, length-drop}
use Rattle.shelf.proofs.walk.sums_at.Goals as goal

pub returns-then-not-right_summary : goal.returns-then-not-right_summary
returns-then-not-right_summary c =
    let a = c.args in
    let l = c.loop-turn in
    let f = sum-found a.s.now l.p c.in-Some.m (cc) in
    let w : right_sum l.prev c.in-Some.m ≡ false = sym c.right_summary.ensures ∙ c.if-not-right_summary.true in
    rw (c.at-then-not-right_summary.ensures, l.invariant, sums-wrong (a.n - l.turn) l.prev l.p a.s.now (omega arith) c.in-Some.m f.0 f.1 w)

pub overflow_add-p : goal.overflow_add-p
overflow_add-p c =
    let a = c.args in
    let l = c.loop-turn in
    omega (arith, sum_room (drop l.p a.s.now) (sum-found a.s.now l.p c.in-Some.m (cc)).0, length-drop l.p a.s.now)

-- a summary passed: one turn of the loop, of which `turn` are done

passed_one : (n turn prev p : ℕ) (m : Summary) (s : List ℕ) → turn < n → sum_at s p ≡ Some m → right_sum prev m ≡ true →
    sums (n - turn) prev p (drop p s) ≡ sums (n - (turn + 1)) m.greatest (p + 12) (drop (p + 12) s)
passed_one n turn prev p m s h e w =
    let f = sum-found s p m e in
    let less : n - turn - 1 ≡ n - (turn + 1) = omega arith in
    rw less at (sums-step (n - turn) prev p s (omega arith) m f.0 f.1 w)

pub loop-turn-preserved : goal.loop-turn-preserved
loop-turn-preserved c =
    let a = c.args in
    let l = c.loop-turn in
    let w : right_sum l.prev c.in-Some.m ≡ true = sym c.right_summary.ensures ∙ c.if-not-right_summary.false in
    l.invariant ∙ passed_one a.n l.turn l.prev l.p c.in-Some.m a.s.now c.loop-turn-test.true (cc) w

pub returns-in_default : goal.returns-in_default
returns-in_default c =
    let a = c.args in
    let l = c.loop-turn in
    let none : sum_at a.s.now l.p ≡ None = cc in
    rw (c.at.ensures, l.invariant, sums_missing (a.n - l.turn) l.prev l.p a.s.now (omega arith) (sum_missing a.s.now l.p none))

pub returns : goal.returns
returns c =
    let a = c.args in
    let l = c.loop-turn in
    rw (l.invariant, sums_none (a.n - l.turn) l.prev l.p a.s.now (omega arith))
