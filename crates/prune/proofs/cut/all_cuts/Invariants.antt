use Rattle.prune.proofs.Wholes.{Walking}
use Rattle.prune.proofs.cut.all_cuts.Given as goal

abbrev pub invariant-loop-end : goal.invariant-loop-end
invariant-loop-end l = Walking l.lim l.ends l.los l.his l.initial.run l.run l.n l.from l.end-index
