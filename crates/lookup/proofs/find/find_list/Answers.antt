-- `lookup::find::find_list` meets its contract. The invariant: the answer for all is the answer for the lists that are left, after what is known.
-- Assumes nothing.
use mathlib.Core.Path.{◌≡◌, sym, ap, ◌∙◌}
use Rattle.std.specs.Prelude.{Option, Some, None, Result, ok_or}
use Rattle.model.specs.declared.refusal.Refusal.{Refusal}
use Rattle.model.specs.declared.refusal.Fault.TheVariants as fault
use Rattle.shelf.specs.declared.walk.Place.{Place}
use Rattle.model.specs.Refusal.{number, refusal, outcome_of}
use Rattle.model.proofs.Refusals.{refused_up}
use Rattle.shelf.specs.Cursor.{lists_at}
use Rattle.shelf.specs.declared.walk.Walk.{Walk}
use Rattle.shelf.proofs.Steps.{turn, walk_end, walk-fault}
use Rattle.lookup.proofs.Finds.{or_absent, shown_from, shown-turn, found-start}
use Rattle.lookup.proofs.find.find_list.Goals as goal

pub loop-list-init : goal.loop-list-init
loop-list-init c =
    let s = c.args.s.now in
    let t = c.args.term in
    found-start t s ∙ ap (λ (x : Walk). shown_from None t (lists_at s x)) (sym c.new-walk.ensures)

pub loop-list-smaller : goal.loop-list-smaller
loop-list-smaller c = (turn c.args.s.now c.loop-list.walk c.in-Some.list c.next.new.self (rw c.in-Some.is at c.in_ok-list.ensures)).fewer

pub loop-list-preserved : goal.loop-list-preserved
loop-list-preserved c =
    let l = c.loop-list in
    let s = c.args.s.now in
    let t = c.args.term in
    let k = turn s l.walk c.in-Some.list c.next.new.self (rw c.in-Some.is at c.in_ok-list.ensures) in
    l.invariant ∙ shown-turn s l.walk c.next.new.self c.in-Some.list l.known t k ∙ rw c.here_or-known.ensures

pub returns-in_err-list : goal.returns-in_err-list
returns-in_err-list c =
    let l = c.loop-list in
    let s = c.args.s.now in
    let r = c.in_err-list.field-0.0 in
    refused_up c.from_residual.result r c.from_residual.ensures.1
    ∙ sym (l.invariant ∙ rw (walk-fault s l.walk (number r.fault) r.offset c.in_err-list.ensures.0))

-- `ok_or` answers for what is known

answered : (known : Option Place) (x : Result Place Refusal) → x ≡ ok_or known (refusal fault.Absent 0) → outcome_of x ≡ or_absent known
answered (Some p) x e = rw e
answered None x e = rw e

pub returns : goal.returns
returns c =
    let l = c.loop-list in
    let s = c.args.s.now in
    answered l.known c.ok_or.result (rw c.at.ensures at c.ok_or.ensures.value)
    ∙ sym (l.invariant ∙ rw (walk_end s l.walk (rw c.in_default.is at c.in_ok-list.ensures).0))
