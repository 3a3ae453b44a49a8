-- `rank_all` meets its contract: each way out by what the query's reader, the walk and the rows say (`Alls`). Assumes nothing.
use Prim.Native.Nat.{ℕ}
use mathlib.Core.Path.{ap, ◌∙◌}
use native.Mathlib.Omega.{arith}
use Rattle.std.proofs.lemmas.Result.{err_from_is_err_and}
use Rattle.model.specs.Refusal.{number}
use Rattle.query.proofs.Accepted.{accepted_in_range}
use Rattle.rank.specs.Match.{any_list}
use Rattle.prune.specs.Prune.{exhaustive}
use Rattle.exhaustive.specs.Lists.{listings_of}
use Rattle.exhaustive.proofs.Alls.{answers_as, all_asked, all-walk, all-rows, all-ranked, carried_few, found_mergeable, found-same}
use Rattle.exhaustive.proofs.all.rank_all.Goals as goal

pub returns-in_err-asked : goal.returns-in_err-asked
returns-in_err-asked c =
    let p = err_from_is_err_and c.from_residual.result c.from_residual.ensures.1 in
    let r = c.in_err-asked.field-0.0 in
    rw (p.1, p.2) (all_asked _ _ _ (number r.fault) r.offset c.in_err-asked.ensures)

pub returns-in_err-found : goal.returns-in_err-found
returns-in_err-found c =
    let g = c.in_ok-asked.ensures in
    let p = err_from_is_err_and c.from_residual-in_err-found.result c.from_residual-in_err-found.ensures.1 in
    let r = c.in_err-found.field-0.0 in
    rw (p.1, p.2) (all-walk _ _ _ g.0 g.1 (number r.fault) r.offset c.in_err-found.ensures)

pub returns-then-rows-k : goal.returns-then-rows-k
returns-then-rows-k c =
    let g = c.in_ok-asked.ensures in
    let l = c.in_ok-found.ensures in
    rw c.at.ensures (all-rows _ _ _ g.0 g.1 l.0 l.1 (omega (arith, c.if-rows-k.true, g.2.k)))

pub rank_found-requires : goal.rank_found-requires
rank_found-requires c =
    let g = c.in_ok-asked.ensures in
    let l = c.in_ok-found.ensures in
    let few = carried_few _ g.0 c.in_ok-asked.asked (λ i. omega (arith, c.type_inv.query i)) g.1 g.2 in
    let r = accepted_in_range _ g.0 (λ i. omega (arith, c.type_inv.query i)) g.1 in
    found_mergeable _ g.0 c.in_ok-asked.asked g.2 few l.0 l.1 c.in_ok-found.found l.2 _ (omega (arith, g.2.k, r.k_low)) (omega (arith, g.2.k, r.k_high))

pub returns : goal.returns
returns c =
    let q = c.in_ok-asked.asked in
    let g = c.in_ok-asked.ensures in
    let l = c.in_ok-found.ensures in
    let few = carried_few _ g.0 q (λ i. omega (arith, c.type_inv.query i)) g.1 g.2 in
    answers_as _
    (found-same _ g.0 q g.2 few l.0 l.1 c.in_ok-found.found l.2 q.k
    ∙ ap (λ (k : ℕ). exhaustive any_list k (listings_of g.0.terms l.0)) g.2.k
    ∙ all-ranked _ _ _ g.0 g.1 l.0 l.1 (omega (arith, c.if-rows-k.false, g.2.k)))
    c.rank_found.ensures
