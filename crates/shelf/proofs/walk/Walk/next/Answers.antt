-- `shelf::walk::Walk::next` meets its contract: each return is a law of `Steps` at the tests that led there. Assumes nothing.
use mathlib.Core.Path.{refl, sym}
use Rattle.std.proofs.lemmas.Result.{err_from_is_err_and}
use Rattle.model.specs.Refusal.{number}
use Rattle.shelf.proofs.Steps.{step_large, step_end, step_full, step-list, step-not}
use Rattle.shelf.proofs.walk.Walk.next.Goals as goal

pub returns-then-s-gt-MAX_SHELF : goal.returns-then-s-gt-MAX_SHELF
returns-then-s-gt-MAX_SHELF c = let a = c.args in (rw c.at.ensures (step_large a.s.now a.self.now c.if-s-gt-MAX_SHELF.true), refl)

pub returns-then-s-at : goal.returns-then-s-at
returns-then-s-at c = let a = c.args in (step_end a.s.now a.self.now c.if-s-gt-MAX_SHELF.false c.if-s-at.true, refl)

pub returns-then-left-eq0 : goal.returns-then-left-eq0
returns-then-left-eq0 c =
    let a = c.args in
    (rw c.at-then-left-eq0.ensures (step_full a.s.now a.self.now c.if-s-gt-MAX_SHELF.false c.if-s-at.false c.if-left-eq0.true), refl)

pub returns-in_err-list : goal.returns-in_err-list
returns-in_err-list c =
    let a = c.args in
    let p = err_from_is_err_and c.from_residual.result c.from_residual.ensures.1 in
    let r = c.in_err-list.field-0.0 in
    rw (p.1, p.2) (step-not a.s.now a.self.now c.if-s-gt-MAX_SHELF.false c.if-s-at.false c.if-left-eq0.false (number r.fault) r.offset (sym c.in_err-list.ensures), refl)

pub returns : goal.returns
returns c =
    let a = c.args in
    step-list a.s.now a.self.now c.if-s-gt-MAX_SHELF.false c.if-s-at.false c.if-left-eq0.false c.in_ok-list.list (sym c.in_ok-list.ensures)
