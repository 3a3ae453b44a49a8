-- `print` meets its contract: the lines of each answer. Assumes nothing.
use Prim.Native.Nat.{◌-◌}
use native.Mathlib.Omega.{arith}
use mathlib.Core.Path.{◌≡◌}
use Rattle.model.specs.Refusal.{number}
use Rattle.model.proofs.Storing.{stored-holds}
use Rattle.lines.specs.Book.{Small}
use Rattle.lines.proofs.Sizes.{refusal-short, text-short}
use Rattle.report.specs.Report.{rows_of, Printed}
use Rattle.report.proofs.Prints.{small_of}
use borrow.Author.Rules.{rules}
use Rattle.report.proofs.report.print.Goals as goal

pub put_refusal-requires : goal.put_refusal-requires
put_refusal-requires c = let r = c.in-Err.stopped.refusal in omega (arith, refusal-short (number r.fault) r.offset, c.requires.0)

pub slice_bounds-put_shown-end : goal.slice_bounds-put_shown-end
slice_bounds-put_shown-end c =
    let a = c.args in
    let ready : Printed c.in-Ok.done a.firsts.now a.ceilings.now a.marks.now = rw c.in-Ok.is at c.requires.1 in
    omega (arith, ready.firsts)

pub slice_bounds-put_shown-end-in-Ok : goal.slice_bounds-put_shown-end-in-Ok
slice_bounds-put_shown-end-in-Ok c =
    let a = c.args in
    let ready : Printed c.in-Ok.done a.firsts.now a.ceilings.now a.marks.now = rw c.in-Ok.is at c.requires.1 in
    omega (arith, ready.ceilings)

pub slice_bounds-put_shown-end-in-Ok-2 : goal.slice_bounds-put_shown-end-in-Ok-2
slice_bounds-put_shown-end-in-Ok-2 c =
    let a = c.args in
    let ready : Printed c.in-Ok.done a.firsts.now a.ceilings.now a.marks.now = rw c.in-Ok.is at c.requires.1 in
    omega (arith, ready.marks)

pub put_shown-requires : goal.put_shown-requires
put_shown-requires c =
    let a = c.args in
    let r = c.in-Ok.done in
    let q : Printed r a.firsts.now a.ceilings.now a.marks.now = rw c.in-Ok.is at c.requires.1 in
    let small : Small (rows_of r a.firsts.now a.ceilings.now a.marks.now) =
    small_of r a.firsts.now a.ceilings.now a.marks.now q (λ i. omega (arith, c.type_inv.firsts i)) (λ i. omega (arith, c.type_inv.ceilings i)) in
    let z : r.intervals - 0 ≡ r.intervals = omega arith in
    rw z (search rules, search rules, q.kept, q.book, omega (arith, text-short (rows_of r a.firsts.now a.ceilings.now a.marks.now) small, c.requires.0))

pub returns-in-Err : goal.returns-in-Err
returns-in-Err c =
    let r = c.in-Err.stopped.refusal in
    rw c.in-Err.is (stored-holds (omega (arith, refusal-short (number r.fault) r.offset, c.requires.0)) c.put_refusal.ensures)

pub returns-in-Ok : goal.returns-in-Ok
returns-in-Ok c =
    let a = c.args in
    let r = c.in-Ok.done in
    let q : Printed r a.firsts.now a.ceilings.now a.marks.now = rw c.in-Ok.is at c.requires.1 in
    let small : Small (rows_of r a.firsts.now a.ceilings.now a.marks.now) =
    small_of r a.firsts.now a.ceilings.now a.marks.now q (λ i. omega (arith, c.type_inv.firsts i)) (λ i. omega (arith, c.type_inv.ceilings i)) in
    let z : r.intervals - 0 ≡ r.intervals = omega arith in
    rw c.in-Ok.is
    (stored-holds (omega (arith, text-short (rows_of r a.firsts.now a.ceilings.now a.marks.now) small, c.requires.0)) (rw z at c.put_shown.ensures))
