-- `fill_ceilings` meets its contract: the ceilings of the lists so far. Assumes nothing.
use mathlib.Core.Path.{◌∙◌}
use native.Mathlib.Omega.{arith}
use Rattle.std.proofs.lemmas.Slice.Zip.{zip_turn}
use Rattle.std.proofs.lemmas.List.{length_push}
use Rattle.intervals.proofs.Tables.{filling_none, filling_asks, filling_more}
use Rattle.intervals.proofs.book.fill_ceilings.Goals as goal

pub loop-end-init : goal.loop-end-init
loop-end-init c = filling_none _ _ _ _ _ _ _ c.requires

pub raise_all-requires : goal.raise_all-requires
raise_all-requires c =
    let z = zip_turn c.args.ends.now c.args.weights.now c.loop-end.yielded c.into_iter-end-iterator.result _ c.next.new.self _ (cc) (cc) c.loop-end.yielded_by _ c.in-Some.is c.next.ensures.steps in
    let asks = filling_asks _ _ _ _ _ _ _ c.requires _ _ _ c.loop-end.invariant z.0 (λ i. omega (arith, c.type_inv.weights i)) (λ i. omega (arith, c.type_inv.tops i)) in
    rw (z.2 0, c.from.ensures, z.3 0) asks

pub loop-end-preserved : goal.loop-end-preserved
loop-end-preserved c =
    let z = zip_turn c.args.ends.now c.args.weights.now c.loop-end.yielded c.into_iter-end-iterator.result _ c.next.new.self _ (cc) (cc) c.loop-end.yielded_by _ c.in-Some.is c.next.ensures.steps in
    let r = c.raise_all in
    rw (length_push c.loop-end.yielded (c.in-Some.field-0-0, c.in-Some.field-0-1), z.2 0) (filling_more _ _ _ _ _ _ _ c.requires _ _ _ c.loop-end.invariant z.0 _ _ (c.from.ensures ∙ z.3 0) r.auto.out (rw (z.2 0) at r.ensures.1))
