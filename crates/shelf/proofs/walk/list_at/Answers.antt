-- `shelf::walk::list_at` meets its contract: each return is a law of `Walks` at what its parts were found to be. Assumes nothing.
use Rattle.std.specs.Prelude.{Some, None}
use Rattle.model.specs.Refusal.{number}
use Rattle.model.proofs.Refusals.{refused_up}
use Rattle.shelf.specs.Answers.{head_at}
use Rattle.shelf.proofs.Walks.{head-found, head-room, list_no_head, list_no_sums, list_no_bodies, list-whole}
use native.Mathlib.Omega.{arith}
use mathlib.Core.Path.{◌≡◌, sym, ◌∙◌}
use lib.ListN.{drop, length-drop}
use Rattle.shelf.proofs.walk.list_at.Goals as goal

pub overflow_add-at : goal.overflow_add-at
overflow_add-at c =
    let a = c.args in
    let f = head-found a.floor a.s.now a.at c.in-Some.term c.in-Some.count (cc) in
    omega (arith, head-room a.floor (drop a.at a.s.now) f.0, length-drop a.at a.s.now)

pub returns-in_default : goal.returns-in_default
returns-in_default c =
    let a = c.args in
    let none : head_at a.floor a.s.now a.at ≡ None = cc in
    rw c.at.ensures (sym (list_no_head a.floor a.at a.s.now none))

pub returns-in_err-b : goal.returns-in_err-b
returns-in_err-b c =
    let a = c.args in
    let r = c.in_err-b.field-0.0 in
    let h : head_at a.floor a.s.now a.at ≡ Some (c.in-Some.term, c.in-Some.count) = cc in
    refused_up c.from_residual.result r c.from_residual.ensures.1
    ∙ sym (list_no_sums a.floor a.at a.s.now c.in-Some.term c.in-Some.count h (number r.fault) r.offset (sym c.in_err-b.ensures))

pub returns-in_err-next : goal.returns-in_err-next
returns-in_err-next c =
    let a = c.args in
    let r = c.in_err-next.field-0.0 in
    let h : head_at a.floor a.s.now a.at ≡ Some (c.in-Some.term, c.in-Some.count) = cc in
    refused_up c.from_residual-in_err-next.result r c.from_residual-in_err-next.ensures.1
    ∙ sym (list_no_bodies a.floor a.at a.s.now c.in-Some.term c.in-Some.count h c.in_ok-b.b (sym c.in_ok-b.ensures) (number r.fault) r.offset (sym c.in_err-next.ensures))

pub returns : goal.returns
returns c =
    let a = c.args in
    let h : head_at a.floor a.s.now a.at ≡ Some (c.in-Some.term, c.in-Some.count) = cc in
    sym (list-whole a.floor a.at a.s.now c.in-Some.term c.in-Some.count h c.in_ok-b.b (sym c.in_ok-b.ensures) c.in_ok-next.next (sym c.in_ok-next.ensures))
