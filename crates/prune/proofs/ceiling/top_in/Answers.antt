-- `top_in` meets its contract, by the three cases of the place reached. Assumes nothing.
use mathlib.Core.Path.{◌∙◌}
use Rattle.std.proofs.Common.{arith, rules}
use Rattle.prune.proofs.Books.{reached-past, reached-gap, reached-met}
use Rattle.prune.proofs.ceiling.top_in.Goals.{then-los-j-via-then-los-j, then-los-j-via-else-los-j+then-d-los}
use Rattle.prune.proofs.ceiling.top_in.Goals as goal

pub returns-then-los-j : goal.returns-then-los-j
returns-then-los-j c =
    let a = c.args in
    elim c.then-los-j.branch [
      | then-los-j-via-then-los-j w ↦ record { is = reached-past a.los.now a.his.now a.tops.now a.d a.j c.requires.0 c.requires.1 w.if-los-j.true; small = omega arith }
      | then-los-j-via-else-los-j+then-d-los w ↦ record { is = reached-gap a.los.now a.his.now a.tops.now a.d a.j c.requires.0 c.requires.1 w.if-los-j.false w.if-d-los.true; small = omega arith }
    ]

pub returns : goal.returns
returns c =
    let a = c.args in
    record { is = c.from.ensures ∙ reached-met a.los.now a.his.now a.tops.now a.d a.j c.requires.0 c.requires.1 (omega arith) (omega arith); small = search rules }
