-- `merge` meets its contract: what was kept, with the documents of what the lists still have, gives the answer (`Merges`); the postings left are fewer
-- with each run. Assumes nothing.
use Rattle.rank.specs.Run.{size}
use Rattle.scan.specs.Heads.{terms}
use Rattle.exhaustive.specs.Merge.{wholes, fault_left}
use Rattle.exhaustive.proofs.Merges.{Merging}
use Rattle.exhaustive.proofs.merge.merge.Given as goal

abbrev pub invariant-loop-filled : goal.invariant-loop-filled
invariant-loop-filled l = Merging l.shelf l.k (wholes l.shelf (terms l.initial.docs l.initial.scores l.initial.heads) l.initial.lefts) (fault_left l.shelf l.initial.lefts) l.docs l.scores l.heads l.lefts l.kept

abbrev pub decreases-loop-filled : goal.decreases-loop-filled
decreases-loop-filled l = size (wholes l.shelf (terms l.docs l.scores l.heads) l.lefts)
