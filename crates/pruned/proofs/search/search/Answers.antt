-- `search` meets its contract: each way out by what the query's reader, the walk and the rows say (`Searches`). Assumes nothing.
use mathlib.Core.Path.{◌∙◌}
use native.Mathlib.Omega.{arith}
use Rattle.std.proofs.lemmas.Result.{err_from_is_err_and}
use Rattle.model.specs.Refusal.{number, refusal}
use Rattle.model.specs.declared.refusal.Fault.TheVariants as fault
use Rattle.query.proofs.Accepted.{accepted_in_range}
use Rattle.exhaustive.proofs.Alls.{carried_few}
use Rattle.pruned.proofs.Endings.{answers_as, refused_as, refused_early}
use Rattle.pruned.proofs.Searches.{searched-asked, searched-walk, searched-rows, searched-lists, found_searchable, found-answer}
use Rattle.pruned.proofs.search.search.Goals as goal

pub returns-in_err-asked : goal.returns-in_err-asked
returns-in_err-asked c =
    let a = c.args in
    let p = err_from_is_err_and c.from_residual.result c.from_residual.ensures.1 in
    let r = c.in_err-asked.field-0.0 in
    rw (p.1, p.2) (refused_as
    (searched-asked a.query.now a.shelf.now a.rows a.firsts.now a.ceilings.now a.marks.now (number r.fault) r.offset c.in_err-asked.ensures)
    (refused_early r a.firsts.now a.ceilings.now a.marks.now))

pub find_terms-requires : goal.find_terms-requires
find_terms-requires c =
    let g = c.in_ok-asked.ensures in
    carried_few _ g.0 c.in_ok-asked.asked (λ i. omega (arith, c.type_inv.query i)) g.1 g.2

pub returns-in_err-found : goal.returns-in_err-found
returns-in_err-found c =
    let a = c.args in
    let g = c.in_ok-asked.ensures in
    let p = err_from_is_err_and c.from_residual-in_err-found.result c.from_residual-in_err-found.ensures.1 in
    let r = c.in_err-found.field-0.0 in
    rw (p.1, p.2) (refused_as
    (searched-walk a.query.now a.shelf.now a.rows a.firsts.now a.ceilings.now a.marks.now g.0 g.1 (number r.fault) r.offset c.in_err-found.ensures)
    (refused_early r a.firsts.now a.ceilings.now a.marks.now))

pub returns-then-rows-k : goal.returns-then-rows-k
returns-then-rows-k c =
    let a = c.args in
    let g = c.in_ok-asked.ensures in
    let l = c.in_ok-found.ensures in
    rw (c.from.ensures, c.at.ensures) (refused_as
    (searched-rows a.query.now a.shelf.now a.rows a.firsts.now a.ceilings.now a.marks.now g.0 g.1 l.0 l.1 (omega (arith, c.if-rows-k.true, g.2.k)))
    (refused_early (refusal fault.Room 0) a.firsts.now a.ceilings.now a.marks.now))

pub over_found-requires : goal.over_found-requires
over_found-requires c =
    let a = c.args in
    let g = c.in_ok-asked.ensures in
    let l = c.in_ok-found.ensures in
    let q = c.in_ok-asked.asked in
    let few = carried_few _ g.0 q (λ i. omega (arith, c.type_inv.query i)) g.1 g.2 in
    let r = accepted_in_range _ g.0 (λ i. omega (arith, c.type_inv.query i)) g.1 in
    found_searchable a.shelf.now g.0 q g.2 few l.0 l.1 c.in_ok-found.found l.2 q.k (omega (arith, g.2.k, r.k_low)) (omega (arith, g.2.k, r.k_high))

pub returns : goal.returns
returns c =
    let a = c.args in
    let g = c.in_ok-asked.ensures in
    let l = c.in_ok-found.ensures in
    let q = c.in_ok-asked.asked in
    let few = carried_few _ g.0 q (λ i. omega (arith, c.type_inv.query i)) g.1 g.2 in
    answers_as _ _ _ _
    (found-answer a.shelf.now g.0 q g.2 few l.0 l.1 c.in_ok-found.found l.2 a.firsts.now a.ceilings.now a.marks.now
    ∙ searched-lists a.query.now a.shelf.now a.rows a.firsts.now a.ceilings.now a.marks.now g.0 g.1 l.0 l.1 (omega (arith, c.if-rows-k.false, g.2.k)))
    c.over_found.ensures
