-- `edit::withdraw_in` meets its contract: 12, 11 and 9 by what is left, then all of it stored (`Lefts`). Assumes nothing.
use native.Mathlib.Omega.{arith}
use mathlib.Core.Path.{sym, ◌∙◌}
use borrow.Author.Tests.{not-true, not-false}
use lib.ListN.{length}
use Rattle.list.proofs.Faults.{gives-refused, gives-done}
use Rattle.change.specs.Edits.{every}
use Rattle.change.specs.Bytes.{pieces, joined, clear_pieces}
use Rattle.edit.proofs.Lefts.{withdraw-none, withdraw-some, fit_large, fit_tight, fit-done}
use Rattle.edit.proofs.withdraw.withdraw_in.Goals as goal

pub returns-then-not-left : goal.returns-then-not-left
returns-then-not-left c =
    λ ls e.
    let m = c.measure-left.ensures ls e in
    rw c.at.ensures (gives-refused _ c.args.out.now (withdraw-none c.args.s.now ls (λ i. omega (arith, c.shared_slice_known-1.given i)) e c.args.docid (length c.args.out.now) (sym m.held ∙ not-true _ c.if-not-left.true)))

pub returns-then-left-gt-MAX_SHELF : goal.returns-then-left-gt-MAX_SHELF
returns-then-left-gt-MAX_SHELF c =
    λ ls e.
    let m = c.measure-left.ensures ls e in
    rw c.at-then-left-gt-MAX_SHELF.ensures (gives-refused _ c.args.out.now (withdraw-some c.args.s.now ls (λ i. omega (arith, c.shared_slice_known-1.given i)) e c.args.docid (length c.args.out.now) (sym m.held ∙ not-false _ c.if-not-left.false) ∙ fit_large (joined (clear_pieces every c.args.docid (pieces c.args.s.now ls))) (length c.args.out.now) (omega (arith, m.bytes, c.if-left-gt-MAX_SHELF.true))))

pub returns-then-out-left : goal.returns-then-out-left
returns-then-out-left c =
    λ ls e.
    let m = c.measure-left.ensures ls e in
    rw c.at-then-out-left.ensures (gives-refused _ c.args.out.now (withdraw-some c.args.s.now ls (λ i. omega (arith, c.shared_slice_known-1.given i)) e c.args.docid (length c.args.out.now) (sym m.held ∙ not-false _ c.if-not-left.false) ∙ fit_tight (joined (clear_pieces every c.args.docid (pieces c.args.s.now ls))) (length c.args.out.now) (omega (arith, m.bytes, c.if-left-gt-MAX_SHELF.false)) (omega (arith, m.bytes, c.if-out-left.true))))

pub returns : goal.returns
returns c =
    λ ls e.
    let m = c.measure-left.ensures ls e in
    gives-done (withdraw-some c.args.s.now ls (λ i. omega (arith, c.shared_slice_known-1.given i)) e c.args.docid (length c.args.out.now) (sym m.held ∙ not-false _ c.if-not-left.false) ∙ fit-done (joined (clear_pieces every c.args.docid (pieces c.args.s.now ls))) (length c.args.out.now) (omega (arith, m.bytes, c.if-left-gt-MAX_SHELF.false)) (omega (arith, m.bytes, c.if-out-left.false))) (omega (arith, m.bytes, c.if-out-left.false)) (c.put_all.ensures ls e)
