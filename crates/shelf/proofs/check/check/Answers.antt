-- `shelf::check::check` meets its contract. The invariant: the answer for all is the answer for the lists that are left, after the wrong body found.
-- Assumes nothing.
use mathlib.Core.Path.{sym, ap, ◌∙◌}
use Rattle.model.specs.Refusal.{number}
use Rattle.model.proofs.Refusals.{refused_up}
use Rattle.shelf.specs.Check.{judged}
use Rattle.shelf.specs.Cursor.{lists_at}
use Rattle.shelf.specs.declared.walk.Walk.{Walk}
use Rattle.std.specs.Prelude.{None}
use Rattle.shelf.proofs.Steps.{turn, walk_end, walk-fault}
use Rattle.shelf.proofs.Checks.{finish, finish_turn, checked-start, finish_end}
use Rattle.shelf.proofs.check.check.Goals as goal

pub loop-list-init : goal.loop-list-init
loop-list-init c =
    let s = c.args.s.now in
    ap judged (checked-start s) ∙ ap (λ (x : Walk). judged (finish None (lists_at s x))) (sym c.new-walk.ensures)

pub bad_or-bad-requires : goal.bad_or-bad-requires
bad_or-bad-requires c = (turn c.args.s.now c.loop-list.walk c.in-Some.list c.next.new.self (rw c.in-Some.is at c.in_ok-list.ensures)).ready

pub loop-list-smaller : goal.loop-list-smaller
loop-list-smaller c = (turn c.args.s.now c.loop-list.walk c.in-Some.list c.next.new.self (rw c.in-Some.is at c.in_ok-list.ensures)).fewer

pub loop-list-preserved : goal.loop-list-preserved
loop-list-preserved c =
    let l = c.loop-list in
    let s = c.args.s.now in
    let t = turn s l.walk c.in-Some.list c.next.new.self (rw c.in-Some.is at c.in_ok-list.ensures) in
    l.invariant ∙ finish_turn s l.walk c.next.new.self c.in-Some.list l.bad t ∙ rw c.bad_or-bad.ensures

pub returns-in_err-list : goal.returns-in_err-list
returns-in_err-list c =
    let l = c.loop-list in
    let s = c.args.s.now in
    let r = c.in_err-list.field-0.0 in
    refused_up c.from_residual.result r c.from_residual.ensures.1
    ∙ sym (l.invariant ∙ rw (walk-fault s l.walk (number r.fault) r.offset c.in_err-list.ensures.0))

pub returns : goal.returns
returns c =
    let l = c.loop-list in
    let s = c.args.s.now in
    c.verdict_of.ensures ∙ sym (l.invariant ∙ finish_end l.bad (lists_at s l.walk) (walk_end s l.walk (rw c.in_default.is at c.in_ok-list.ensures).0))
