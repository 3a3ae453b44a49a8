-- `query::fields::is_field` meets its contract: a law of `Parts` at what the call found. Assumes nothing.
use mathlib.Core.Path.{sym, ◌∙◌}
use Rattle.query.proofs.Parts.{is-field-found}
use Rattle.query.proofs.fields.is_field.Goals as goal

pub returns : goal.returns
returns c = let a = c.args in c.eq.ensures ∙ sym (is-field-found a.tag a.len a.q.now a.at c.field.result (sym c.field.ensures))
