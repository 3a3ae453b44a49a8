-- `change::runs::without` meets its contract. The invariant: of the postings passed, those that stay are in front (`Runnings`). Assumes nothing.
use Rattle.change.proofs.Runnings.{Clearing}
use Rattle.change.proofs.runs.without.Given as goal

abbrev pub invariant-loop-i : goal.invariant-loop-i
invariant-loop-i l = Clearing l.d l.n l.initial.docs l.initial.scores l.docs l.scores l.i l.j
