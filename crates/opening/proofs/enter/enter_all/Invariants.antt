-- `enter_all` meets its contract: the lists that are entered, and those that are not yet. Assumes nothing.
use Rattle.opening.proofs.Standings.{Entering}
use Rattle.opening.proofs.enter.enter_all.Given as goal

abbrev pub invariant-loop-t : goal.invariant-loop-t
invariant-loop-t l = Entering 8 l.shelf l.blocks.los.now l.blocks.his.now l.blocks.tops.now l.blocks.counts.now l.blocks.bodies.now l.weights l.was l.mets l.initial.hs l.initial.docs l.initial.scores l.hs l.docs l.scores l.fresh l.wrong l.t
