-- `query::fields::weight_of` meets its contract. Assumes nothing.
use mathlib.Core.Path.{sym, ◌∙◌}
use Rattle.query.proofs.Parts.{weight-at}
use Rattle.query.proofs.fields.weight_of.Goals as goal

pub returns : goal.returns
returns c = let a = c.args in c.be1.ensures ∙ sym (weight-at a.q.now a.i)
