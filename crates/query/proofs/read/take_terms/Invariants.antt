-- `query::read::take_terms` meets its contract. The invariant: what is left to store gives what is asked (`Fillings`). Assumes nothing.
use Rattle.query.proofs.Fillings.{Filling}
use Rattle.query.proofs.read.take_terms.Given as goal

abbrev pub invariant-loop-i : goal.invariant-loop-i
invariant-loop-i l = Filling l.q l.n l.i l.terms l.weights
