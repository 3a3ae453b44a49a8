-- `lookup::gather::find_terms` meets its contract. The invariant: the lists passed, and what is noted of them. Assumes nothing.
use Rattle.lookup.proofs.Gathers.{Noting}
use Rattle.lookup.proofs.gather.find_terms.Given as goal

abbrev pub invariant-loop-list : goal.invariant-loop-list
invariant-loop-list l = Noting l.s l.terms l.n l.ats l.counts l.walk

abbrev pub decreases-loop-list : goal.decreases-loop-list
decreases-loop-list l = l.walk.left
