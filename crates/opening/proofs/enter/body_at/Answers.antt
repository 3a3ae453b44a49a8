-- `body_at` meets its contract. Assumes nothing.
use mathlib.Core.Path.{sym, ◌∙◌}
use native.Mathlib.Omega.{arith}
use Rattle.wire.proofs.Fields.{len_at, value-at}
use Rattle.opening.proofs.enter.body_at.Goals as goal

pub slice_bounds-result-end : goal.slice_bounds-result-end
slice_bounds-result-end c =
    let a = c.args in
    omega (arith, c.be2.ensures, len_at a.s.now a.at)

pub returns : goal.returns
returns c =
    let a = c.args in
    value-at a.s.now a.at _ (c.be2.ensures ∙ sym (len_at a.s.now a.at))
