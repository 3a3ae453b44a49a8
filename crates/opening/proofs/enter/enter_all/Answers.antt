-- `enter_all` meets its contract: the lists that are entered, and those that are not yet. Assumes nothing.
use mathlib.Core.Path.{refl}
use native.Mathlib.Omega.{arith}
use Rattle.opening.proofs.Enters.{enter-few}
use Rattle.opening.proofs.Standings.{entering_none, entering_more, entering_done}
use Rattle.opening.proofs.enter.enter_all.Goals as goal

pub loop-t-init : goal.loop-t-init
loop-t-init c = entering_none _ _ _ _ _ _ _ _ _ _ _ _ (omega arith) c.requires.docids c.requires.scored

pub bounds-weights-t : goal.bounds-weights-t
bounds-weights-t c = omega (arith, c.requires.weighted)

pub bounds-was-t : goal.bounds-was-t
bounds-was-t c = omega (arith, c.requires.before)

pub bounds-mets-t : goal.bounds-mets-t
bounds-mets-t c = omega (arith, c.requires.blocks)

pub enter-e-requires : goal.enter-e-requires
enter-e-requires c = (omega arith, c.requires.each c.loop-t.t (omega arith), c.loop-t.invariant.docids, c.loop-t.invariant.scored)

pub overflow_add-fresh : goal.overflow_add-fresh
overflow_add-fresh c = omega (arith, enter-few _ _ _ _ _ _ _ _ _ _ _ _ _ _ _ _ c.enter-e.ensures, c.loop-t.invariant.few)

pub loop-t-preserved : goal.loop-t-preserved
loop-t-preserved c =
    let s = c.loop-t in
    entering_more _ _ _ _ _ _ _ _ _ _ _ _ _ _ _ _ _ _ _ _ _ _ _ _ (omega arith) (omega arith) (λ i. omega (arith, c.shared_slice_known-1.given i)) (c.requires.each s.t (omega arith)) s.invariant c.enter-e.ensures refl c.sooner-wrong.ensures

pub returns : goal.returns
returns c = entering_done _ _ _ _ _ _ _ _ _ _ _ _ _ _ _ _ _ _ (omega arith) c.loop-t.invariant
