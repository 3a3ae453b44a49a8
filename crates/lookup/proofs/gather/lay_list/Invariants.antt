-- `lookup::gather::lay_list` meets its contract. The invariant: what is laid and what is left are the list's blocks (`Laying`). Assumes nothing.
use Rattle.shelf.specs.Walk.{blocks_at}
use Rattle.lookup.specs.Table.{runs}
use Rattle.lookup.proofs.Tables.{Laying}
use Rattle.lookup.proofs.gather.lay_list.Given as goal

abbrev pub invariant-loop-b : goal.invariant-loop-b
invariant-loop-b l = Laying l.s (blocks_at l.s l.at l.count) l.j l.i l.r (runs l.initial.los l.initial.his l.initial.tops l.initial.counts l.initial.bodies) (runs l.los l.his l.tops l.counts l.bodies)

abbrev pub decreases-loop-b : goal.decreases-loop-b
decreases-loop-b l = l.r.left
