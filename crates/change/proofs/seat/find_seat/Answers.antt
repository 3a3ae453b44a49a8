-- `change::seat::find_seat` meets its contract. The invariant: the seat among the lists left is the seat among all (`Seats`). Assumes nothing.
use native.Mathlib.Omega.{arith}
use mathlib.Core.Path.{◌≡◌}
use Rattle.std.specs.Prelude.{None, Ok}
use Rattle.model.specs.Refusal.{number}
use Rattle.shelf.proofs.Steps.{turn}
use Rattle.change.proofs.Seats.{onward, at-start, no_fault, seat_start, seat_end, seat_before, seat_here, seat_on}
use Rattle.change.proofs.seat.find_seat.Goals as goal

pub loop-list-init : goal.loop-list-init
loop-list-init c =
    let w = c.new-lists in
    (omega (arith, at-start w.result w.ensures), λ ls e. seat_start c.args.s.now c.args.term ls e w.result w.ensures)

pub returns-then-term-list : goal.returns-then-term-list
returns-then-term-list c =
    let l = c.loop-list in
    λ ls e. seat_before c.args.s.now c.args.term ls l.lists (l.invariant.1 ls e) c.in-Ok-Some.list c.next.new.self (rw c.in-Ok-Some.field-0-is at c.in-Ok-Some.ensures) c.if-term-list.true

pub returns-then-term-list-2 : goal.returns-then-term-list-2
returns-then-term-list-2 c =
    let l = c.loop-list in
    λ ls e. seat_here c.args.s.now c.args.term ls l.lists (l.invariant.1 ls e) c.in-Ok-Some.list c.next.new.self (rw c.in-Ok-Some.field-0-is at c.in-Ok-Some.ensures) c.if-term-list-2.true

pub loop-list-smaller : goal.loop-list-smaller
loop-list-smaller c = (turn c.args.s.now c.loop-list.lists c.in-Ok-Some.list c.next.new.self (rw c.in-Ok-Some.field-0-is at c.in-Ok-Some.ensures)).fewer

pub loop-list-preserved : goal.loop-list-preserved
loop-list-preserved c =
    let l = c.loop-list in
    let o = onward c.args.s.now l.lists c.in-Ok-Some.list c.next.new.self (rw c.in-Ok-Some.field-0-is at c.in-Ok-Some.ensures) in (
      omega (arith, o.ends, o.within),
      λ ls e. seat_on c.args.s.now c.args.term ls l.lists (l.invariant.1 ls e) c.in-Ok-Some.list c.next.new.self (rw c.in-Ok-Some.field-0-is at c.in-Ok-Some.ensures)
          (omega (arith, c.if-term-list-2.false, c.if-term-list.false)),
    )

pub returns-in_default : goal.returns-in_default
returns-in_default c =
    let l = c.loop-list in
    let none : c.next.result ≡ Ok None = cc in
    λ ls e. seat_end c.args.s.now c.args.term ls l.lists (l.invariant.1 ls e) l.invariant.0 (rw none at c.next.ensures).0

pub returns-in_default-2 : goal.returns-in_default-2
returns-in_default-2 c =
    let l = c.loop-list in
    let r = c.in_default.field-0 in
    λ ls e. no_fault c.args.s.now l.lists (l.invariant.1 ls e).rest (l.invariant.1 ls e).left (number r.fault) r.offset (rw c.in_default.is at c.next.ensures).0
