-- `skip_all` meets its contract: the heads are skipped in place, from the front. Assumes nothing.
use Rattle.scan.proofs.Terms.{Skipping}
use Rattle.scan.proofs.run.skip_all.Given as goal

abbrev pub invariant-loop-h : goal.invariant-loop-h
invariant-loop-h l = Skipping l.docs l.scores l.first l.initial.h-items l.h-items l.h-index
