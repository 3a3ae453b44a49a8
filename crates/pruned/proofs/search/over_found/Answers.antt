-- `over_found` meets its contract: the blocks gathered may be searched, and each way out by what the book and the run say (`Endings`). Assumes nothing.
use borrow.Author.Rules.{rules}
use Rattle.std.proofs.lemmas.Result.{err_from_is_err_and}
use Rattle.pruned.proofs.Gatherings.{Tabled, tabled_walked}
use Rattle.pruned.proofs.Endings.{ends-stopped, ends-ended}
use Rattle.pruned.proofs.search.over_found.Goals as goal

pub gather-blocks-requires : goal.gather-blocks-requires
gather-blocks-requires c = c.requires.ready

pub over_blocks-requires : goal.over_blocks-requires
over_blocks-requires c =
    let a = c.args in
    let tabled : Tabled a.shelf.now a.found.ats a.found.counts a.k c.gather-blocks.result = search rules in
    tabled_walked _ _ _ _ _ tabled _ (search rules)

pub returns-in_err-booked : goal.returns-in_err-booked
returns-in_err-booked c =
    let a = c.args in
    let tabled : Tabled a.shelf.now a.found.ats a.found.counts a.k c.gather-blocks.result = search rules in
    let p = err_from_is_err_and c.from_residual.result c.from_residual.ensures.1 in
    rw (p.1, p.2) (ends-stopped _ _ _ _ _ tabled a.weights (search rules) a.firsts.now a.ceilings.now a.marks.now _ _ _ _ c.in_err-booked.ensures)

pub returns : goal.returns
returns c =
    let a = c.args in
    let tabled : Tabled a.shelf.now a.found.ats a.found.counts a.k c.gather-blocks.result = search rules in
    ends-ended _ _ _ _ _ tabled a.weights (search rules) a.firsts.now a.ceilings.now a.marks.now _ _ _ _ c.in_ok-booked.ensures
