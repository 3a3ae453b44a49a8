-- `enter` meets its contract, branch by branch. Assumes nothing.
use native.Mathlib.Omega.{arith}
use Rattle.opening.proofs.Enters.{enter-kept, enter-gap, enter_stands, enter-wrong}
use Rattle.opening.proofs.enter.enter.Goals as goal

pub returns-then-met-was : goal.returns-then-met-was
returns-then-met-was c = enter-kept _ _ _ _ _ _ _ _ _ _ _ _ _ c.if-met-was.true

pub returns-then-met-eq-GAP : goal.returns-then-met-eq-GAP
returns-then-met-eq-GAP c = enter-gap _ _ _ _ _ _ _ _ _ _ _ _ _ _ c.if-met-was.false c.if-met-eq-GAP.true c.ended.ensures

pub offset_bounds-blocks-met : goal.offset_bounds-blocks-met
offset_bounds-blocks-met c = let l = c.requires.1 c.if-met-eq-GAP.false in omega (arith, l.body-in)

pub bounds-blocks-met : goal.bounds-blocks-met
bounds-blocks-met c = (c.requires.1 c.if-met-eq-GAP.false).body-in

pub offset_bounds-blocks-met-2 : goal.offset_bounds-blocks-met-2
offset_bounds-blocks-met-2 c = let l = c.requires.1 c.if-met-eq-GAP.false in omega (arith, l.least_in)

pub bounds-blocks-met-2 : goal.bounds-blocks-met-2
bounds-blocks-met-2 c = (c.requires.1 c.if-met-eq-GAP.false).least_in

pub offset_bounds-blocks-met-3 : goal.offset_bounds-blocks-met-3
offset_bounds-blocks-met-3 c = let l = c.requires.1 c.if-met-eq-GAP.false in omega (arith, l.greatest_in)

pub bounds-blocks-met-3 : goal.bounds-blocks-met-3
bounds-blocks-met-3 c = (c.requires.1 c.if-met-eq-GAP.false).greatest_in

pub offset_bounds-blocks-met-4 : goal.offset_bounds-blocks-met-4
offset_bounds-blocks-met-4 c = let l = c.requires.1 c.if-met-eq-GAP.false in omega (arith, l.top_in)

pub bounds-blocks-met-4 : goal.bounds-blocks-met-4
bounds-blocks-met-4 c = (c.requires.1 c.if-met-eq-GAP.false).top_in

pub bounds-blocks-met-5 : goal.bounds-blocks-met-5
bounds-blocks-met-5 c = (c.requires.1 c.if-met-eq-GAP.false).count-in

pub body_at-requires : goal.body_at-requires
body_at-requires c = (c.requires.1 c.if-met-eq-GAP.false).whole

pub load-requires : goal.load-requires
load-requires c =
    let p = c.requires in
    let l = p.1 c.if-met-eq-GAP.false in
    record { some = l.some; most = l.most; order = l.order; below = l.below; mine = p.0; docids = p.2; scored = p.3 }

pub returns-in-Ok : goal.returns-in-Ok
returns-in-Ok c = enter_stands _ _ _ _ _ _ _ _ _ _ _ _ _ c.if-met-was.false c.if-met-eq-GAP.false _ _ _ _ _ (cc c.is_strip.ensures) c.body_at.ensures c.load.ensures _ c.in-Ok.is

pub returns-in-Err : goal.returns-in-Err
returns-in-Err c = enter-wrong _ _ _ _ _ _ _ _ _ _ _ _ _ c.if-met-was.false c.if-met-eq-GAP.false _ _ _ _ _ (cc c.is_strip.ensures) c.body_at.ensures c.load.ensures _ c.ended-in-Err.ensures c.in-Err.is
