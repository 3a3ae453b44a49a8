-- `fill` meets its contract: the lists are brought on one after another (`Fillings`). Assumes nothing.
use Rattle.exhaustive.proofs.Fillings.{Filling}
use Rattle.exhaustive.proofs.fill.fill.Given as goal

abbrev pub invariant-loop-t : goal.invariant-loop-t
invariant-loop-t l = Filling l.shelf l.initial.docs l.initial.scores l.initial.hs l.initial.ls l.docs l.scores l.hs l.ls l.t
