-- `meet_all` meets its contract: the lists that have moved, and those that have not. Assumes nothing.
use Rattle.opening.proofs.Meets.{Moving}
use Rattle.opening.proofs.meet.meet_all.Given as goal

abbrev pub invariant-loop-t : goal.invariant-loop-t
invariant-loop-t l = Moving l.blocks.los.now l.blocks.his.now l.ends l.initial.ats l.initial.mets l.ats l.mets l.d l.t
