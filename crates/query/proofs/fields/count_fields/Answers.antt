-- `query::fields::count_fields` meets its contract. The invariant: the count of all goes on from the fields that were passed. Assumes nothing.
use Prim.Native.Nat.{◌+◌}
use native.Mathlib.Omega.{arith}
use mathlib.Core.Path.{sym, ◌∙◌}
use Rattle.query.proofs.Parts.{counting_none, counting_start, counting_wrong, counting_turn, counting_end, counted}
use Rattle.query.proofs.fields.count_fields.Goals.{else-loop-at-test, then-loop-at-test+else-not-is_field-2+else-at-end-at-gt8}
use Rattle.query.proofs.fields.count_fields.Goals as goal

pub returns-then-not-is_field : goal.returns-then-not-is_field
returns-then-not-is_field c = rw (counting_none c.args.q.now (sym c.is_field.ensures ∙ c.if-not-is_field.true), c.at.ensures)

pub loop-at-init : goal.loop-at-init
loop-at-init c = (0, counting_start c.args.q.now (sym c.is_field.ensures ∙ c.if-not-is_field.false))

pub returns-then-not-is_field-2 : goal.returns-then-not-is_field-2
returns-then-not-is_field-2 c =
    let l = c.loop-at in
    rw (
      counting_wrong c.args.q.now l.invariant.0 l.at l.invariant.1 c.loop-at-test.true (sym c.is_field-in-loop-at.ensures ∙ c.if-not-is_field-2.true),
      c.at-then-not-is_field-2.ensures,
    )

pub loop-at-preserved : goal.loop-at-preserved
loop-at-preserved c =
    let l = c.loop-at in (
      l.invariant.0 + 1,
      counting_turn c.args.q.now l.invariant.0 l.at l.invariant.1 c.loop-at-test.true (sym c.is_field-in-loop-at.ensures ∙ c.if-not-is_field-2.false),
    )

pub returns : goal.returns
returns c =
    let l = c.loop-at in
    let n = l.invariant.0 in
    elim c.loop-at-test.branch [
      | else-loop-at-test w ↦ counted c.args.q.now n (counting_end c.args.q.now n l.at l.invariant.1 w.loop-at-test.false)
      | then-loop-at-test+else-not-is_field-2+else-at-end-at-gt8 w ↦
          let turned = counting_turn c.args.q.now n l.at l.invariant.1 w.loop-at-test.true (sym w.is_field-in-loop-at.ensures ∙ w.if-not-is_field-2.false) in
          counted c.args.q.now (n + 1) (counting_end c.args.q.now (n + 1) (l.at + 8) turned (omega arith))
    ]
