-- `query::fields::term_of` meets its contract. Assumes nothing.
use mathlib.Core.Path.{sym, ◌∙◌}
use Rattle.query.proofs.Parts.{term-at}
use Rattle.query.proofs.fields.term_of.Goals as goal

pub returns : goal.returns
returns c = let a = c.args in c.be4.ensures ∙ sym (term-at a.q.now a.i)
