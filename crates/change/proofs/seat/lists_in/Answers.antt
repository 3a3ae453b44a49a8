-- `change::seat::lists_in` meets its contract. The invariant: the lists counted and those left are all (`Seats`). Assumes nothing.
use native.Mathlib.Omega.{arith}
use mathlib.Core.Path.{◌≡◌}
use Rattle.std.specs.Prelude.{None, Ok}
use Rattle.model.specs.Refusal.{number}
use Rattle.shelf.proofs.Steps.{turn}
use Rattle.change.proofs.Seats.{left_all, no_fault, count-start, count-end, count-on}
use Rattle.change.proofs.seat.lists_in.Goals as goal

pub loop-list-init : goal.loop-list-init
loop-list-init c =
    let w = c.new-lists in
    (omega (arith, left_all w.result w.ensures), λ ls e. count-start c.args.s.now ls e w.result w.ensures)

pub loop-list-smaller : goal.loop-list-smaller
loop-list-smaller c = (turn c.args.s.now c.loop-list.lists c.in-Ok-Some.list c.next.new.self (rw c.in-Ok-Some.field-0-is at c.in-Ok-Some.ensures)).fewer

pub loop-list-preserved : goal.loop-list-preserved
loop-list-preserved c =
    let l = c.loop-list in
    let t = turn c.args.s.now l.lists c.in-Ok-Some.list c.next.new.self (rw c.in-Ok-Some.field-0-is at c.in-Ok-Some.ensures) in
    (omega (arith, l.invariant.0, t.fewer), λ ls e. count-on c.args.s.now ls l.lists l.n (l.invariant.1 ls e) c.in-Ok-Some.list c.next.new.self (rw c.in-Ok-Some.field-0-is at c.in-Ok-Some.ensures))

pub returns-in_default : goal.returns-in_default
returns-in_default c =
    let l = c.loop-list in
    let none : c.next.result ≡ Ok None = cc in
    λ ls e. count-end c.args.s.now ls l.lists l.n (l.invariant.1 ls e) (rw none at c.next.ensures).0

pub returns-in_default-2 : goal.returns-in_default-2
returns-in_default-2 c =
    let l = c.loop-list in
    let r = c.in_default.field-0 in
    λ ls e. no_fault c.args.s.now l.lists (l.invariant.1 ls e).rest (l.invariant.1 ls e).left (number r.fault) r.offset (rw c.in_default.is at c.next.ensures).0
