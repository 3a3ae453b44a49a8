-- `skip_shut` meets its contract. Assumes nothing.
use Rattle.intervals.proofs.Marks.{Passing}
use Rattle.intervals.proofs.book.skip_shut.Given as goal

abbrev pub invariant-loop-i : goal.invariant-loop-i
invariant-loop-i l = Passing l.ceilings l.n l.kth l.from l.initial.marks l.marks l.i
