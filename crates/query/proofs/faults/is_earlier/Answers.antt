-- `query::faults::is_earlier` meets its contract: the fields from the first on, in place of the last on. Assumes nothing.
use Rattle.std.proofs.Common.{rules, tests, arith, ◌∙◌}
use Rattle.std.proofs.lemmas.Iterator.{YieldsList-from_range}
use Rattle.std.proofs.lemmas.Iterator.Search.{any_from_yields_List}
use Rattle.query.proofs.Parts.{asks, earlier-all}
use Rattle.query.proofs.faults.is_earlier.Goals as goal

pub returns : goal.returns
returns c =
    let a = c.args in
    any_from_yields_List (asks a.term a.q.now) _ _ _ c.any.ensures.ran (YieldsList-from_range 0 a.i a.i (cc) (omega arith)) (λ x b q k. search (rules, tests))
    ∙ earlier-all a.term a.q.now a.i
