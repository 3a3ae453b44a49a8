use Rattle.trial.proofs.writing.put_gap.Given as goal

abbrev pub decreases-loop-left : goal.decreases-loop-left
decreases-loop-left g l = l.left
