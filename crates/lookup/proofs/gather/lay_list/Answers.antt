-- `lookup::gather::lay_list` meets its contract. The invariant: what is laid and what is left are the list's blocks (`Laying`). Assumes nothing.
use Rattle.lookup.specs.Table.{runs}
use Rattle.lookup.proofs.Tables.{laying_start, lays_none}
use Rattle.lookup.proofs.gather.lay_list.Goals as goal

pub returns-then-count-eq0 : goal.returns-then-count-eq0
returns-then-count-eq0 c =
    let a = c.args in
    lays_none a.s.now a.at a.count a.j (runs a.los.now a.his.now a.tops.now a.counts.now a.bodies.now) c.if-count-eq0.true

pub loop-b-init : goal.loop-b-init
loop-b-init c =
    let a = c.args in
    laying_start a.s.now a.at a.count a.j (runs a.los.now a.his.now a.tops.now a.counts.now a.bodies.now) c.requires c.if-count-eq0.false
