-- `shelf::walk::bodies_at` meets its contract. The invariant: the answer for all is the answer for those that are left, in the first one's layout. Assumes nothing.
use Rattle.wire.specs.Field.{field_at}
use Rattle.std.specs.Prelude.{Some, None}
use Rattle.wire.proofs.Fields.{field_room, field_is, field-not}
use Rattle.block.specs.Body.{is_strip, tag_of}
use Rattle.shelf.specs.Walk.{bodies, bodies_of}
use Rattle.shelf.proofs.Walks.{bodies-none, bodies-step, bodies_missing}
use Prim.Native.Nat.{ℕ, ◌+◌, ◌-◌, ◌≤◌, ◌<◌}
use native.Mathlib.Omega.{arith}
use native.Mathlib.Nat.{sub-zero}
use mathlib.Core.List.{List}
use mathlib.Core.Path.{◌≡◌, refl, ◌∙◌}
use mathlib.Core.Bool.{Bool}
use lib.ListN.{length, drop}
use Rattle.shelf.proofs.walk.bodies_at.Goals as goal

pub loop-turn-init : goal.loop-turn-init
unfolding bodies
loop-turn-init c = rw sub-zero refl

field_fits : (strip : Bool) (s : List ℕ) (p n : ℕ) → field_at (tag_of strip) s p ≡ Some n → p + (3 + n) ≤ length s
field_fits strip s p n e = field_room (tag_of strip) s p n e

pub overflow_add-p : goal.overflow_add-p
overflow_add-p c =
    let a = c.args in
    omega (arith, field_fits (is_strip (drop a.at a.s.now)) a.s.now c.loop-turn.p c.in-Some.len (cc))

pub overflow_add-p-in-loop-turn : goal.overflow_add-p-in-loop-turn
overflow_add-p-in-loop-turn c =
    let a = c.args in
    omega (arith, field_fits (is_strip (drop a.at a.s.now)) a.s.now c.loop-turn.p c.in-Some.len (cc))

-- a body passed: one turn of the loop, of which `turn` are done

passed_one : (strip : Bool) (n turn p len : ℕ) (s : List ℕ) → turn < n → field_at (tag_of strip) s p ≡ Some len →
    bodies_of strip (n - turn) p (drop p s) ≡ bodies_of strip (n - (turn + 1)) (p + (3 + len)) (drop (p + (3 + len)) s)
passed_one strip n turn p len s h e =
    let i = field_is (tag_of strip) s p len e in
    let less : n - turn - 1 ≡ n - (turn + 1) = omega arith in
    rw (less, i.1) at (bodies-step strip (n - turn) p s (omega arith) i.0)

pub loop-turn-preserved : goal.loop-turn-preserved
loop-turn-preserved c =
    let a = c.args in
    let l = c.loop-turn in
    l.invariant ∙ passed_one (is_strip (drop a.at a.s.now)) a.n l.turn l.p c.in-Some.len a.s.now c.loop-turn-test.true (cc)

pub returns-in_default : goal.returns-in_default
returns-in_default c =
    let a = c.args in
    let l = c.loop-turn in
    let strip = is_strip (drop a.at a.s.now) in
    let none : field_at (tag_of strip) a.s.now l.p ≡ None = cc in
    rw (c.at.ensures, l.invariant, bodies_missing strip (a.n - l.turn) l.p a.s.now (omega arith) (field-not (tag_of strip) a.s.now l.p none))

pub returns : goal.returns
returns c =
    let a = c.args in
    let l = c.loop-turn in
    rw (l.invariant, bodies-none (is_strip (drop a.at a.s.now)) (a.n - l.turn) l.p a.s.now (omega arith))
