-- `lookup::gather::gather` meets its contract. The invariant: the lists before t are gathered (`Gathering`). Assumes nothing.
use Rattle.lookup.specs.Table.{runs}
use Rattle.lookup.proofs.Tables.{Gathering}
use Rattle.lookup.proofs.gather.gather.Given as goal

abbrev pub invariant-loop-t : goal.invariant-loop-t
invariant-loop-t l = Gathering l.s l.found.ats l.found.counts l.t l.all l.ends (runs l.los l.his l.tops l.counts l.bodies)
