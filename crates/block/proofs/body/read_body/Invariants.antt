-- `block::body::read_body` meets its contract. The invariant: what is left to judge and to store gives what is asked (`Fillings`). Assumes nothing.
use Rattle.block.proofs.Fillings.{Filling}
use Rattle.block.proofs.body.read_body.Given as goal

abbrev pub invariant-loop-doc : goal.invariant-loop-doc
invariant-loop-doc l = Filling l.gaps l.points l.greatest l.top l.initial.c l.at l.initial.docs l.initial.scores l.docs l.scores l.c l.last l.largest l.i

abbrev pub decreases-loop-doc : goal.decreases-loop-doc
decreases-loop-doc l = l.c.left
