-- `lines::split::split` meets its contract. The invariant: the fields up to here are passed. Assumes nothing.
use Rattle.lines.specs.Split.{query_field_at}
use Rattle.std.specs.Prelude.{Some, None}
use Rattle.lines.proofs.Splits.{Passing, passing_start, passing_turn, passing_end}
use Prim.Native.Nat.{◌+◌}
use native.Mathlib.Omega.{arith}
use mathlib.Core.Path.{◌≡◌, sym}
use Rattle.lines.proofs.split.split.Goals as goal

pub loop-n-init : goal.loop-n-init
loop-n-init c = passing_start _

pub overflow_add-at : goal.overflow_add-at
overflow_add-at c =
    let turned : Passing c.args.input.now (c.loop-n.at + (3 + c.in-Some.n)) = let s = c.args.input.now in
    let l = c.loop-n in
    let f : query_field_at s l.at ≡ Some c.in-Some.n = cc in
    passing_turn s l.at l.invariant c.in-Some.n f in
    omega (arith, (turned).within)

pub overflow_add-at-in-Some : goal.overflow_add-at-in-Some
overflow_add-at-in-Some c =
    let turned : Passing c.args.input.now (c.loop-n.at + (3 + c.in-Some.n)) = let s = c.args.input.now in
    let l = c.loop-n in
    let f : query_field_at s l.at ≡ Some c.in-Some.n = cc in
    passing_turn s l.at l.invariant c.in-Some.n f in
    omega (arith, (turned).within)

pub loop-n-smaller : goal.loop-n-smaller
loop-n-smaller c =
    let turned : Passing c.args.input.now (c.loop-n.at + (3 + c.in-Some.n)) = let s = c.args.input.now in
    let l = c.loop-n in
    let f : query_field_at s l.at ≡ Some c.in-Some.n = cc in
    passing_turn s l.at l.invariant c.in-Some.n f in
    omega (arith, (turned).within)

pub loop-n-preserved : goal.loop-n-preserved
loop-n-preserved c =
    let turned : Passing c.args.input.now (c.loop-n.at + (3 + c.in-Some.n)) = let s = c.args.input.now in
    let l = c.loop-n in
    let f : query_field_at s l.at ≡ Some c.in-Some.n = cc in
    passing_turn s l.at l.invariant c.in-Some.n f in
    turned

pub returns : goal.returns
returns c =
    let s = c.args.input.now in
    let l = c.loop-n in
    let f : query_field_at s l.at ≡ None = cc in
    sym (passing_end s l.at l.invariant f)
