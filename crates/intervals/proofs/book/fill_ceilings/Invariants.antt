-- `fill_ceilings` meets its contract: the ceilings of the lists so far. Assumes nothing.
use lib.ListN.{length}
use Rattle.intervals.proofs.Tables.{Filling}
use Rattle.intervals.proofs.book.fill_ceilings.Given as goal

abbrev pub invariant-loop-end : goal.invariant-loop-end
invariant-loop-end l = Filling l.los l.his l.tops l.ends l.weights l.starts l.initial.out l.out l.from (length l.yielded)
