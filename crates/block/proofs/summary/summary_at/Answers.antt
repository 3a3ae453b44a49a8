-- `block::summary_at` meets its contract: no field tag 02, one of another length, or the four numbers. Assumes nothing.
use Rattle.wire.specs.Field.{field_at}
use Rattle.std.specs.Prelude.{Some, None}
use Rattle.wire.proofs.Fields.{field_room}
use Rattle.block.proofs.Summaries.{sum-none, sum-other, sum-there}
use native.Mathlib.Omega.{arith}
use mathlib.Core.Path.{◌≡◌, sym, ◌∙◌}
use Rattle.block.proofs.summary.summary_at.Goals as goal

pub returns-then-n-ne9 : goal.returns-then-n-ne9
returns-then-n-ne9 c =
    let found : field_at 2 c.args.s.now c.args.at ≡ Some c.in_ok-n.n = sym c.field.ensures ∙ c.in_ok-n.was in
    let a = c.args in sym (sum-other a.s.now a.at c.in_ok-n.n (found) c.if-n-ne9.true)

pub summary_in-requires : goal.summary_in-requires
summary_in-requires c =
    let found : field_at 2 c.args.s.now c.args.at ≡ Some c.in_ok-n.n = sym c.field.ensures ∙ c.in_ok-n.was in
    omega (arith, field_room 2 c.args.s.now c.args.at c.in_ok-n.n (found))

pub returns : goal.returns
returns c =
    let found : field_at 2 c.args.s.now c.args.at ≡ Some c.in_ok-n.n = sym c.field.ensures ∙ c.in_ok-n.was in
    let a = c.args in
    rw c.summary_in.ensures (sym (sum-there a.s.now a.at c.in_ok-n.n (found) c.if-n-ne9.false))

pub returns-in_err-n : goal.returns-in_err-n
returns-in_err-n c =
    let a = c.args in
    let f : field_at 2 a.s.now a.at ≡ None = sym c.field.ensures ∙ c.in_err-n.was in
    c.from_residual.ensures ∙ sym (sum-none a.s.now a.at f)
