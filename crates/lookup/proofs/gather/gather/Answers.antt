-- `lookup::gather::gather` meets its contract. The invariant: the lists before t are gathered (`Gathering`). Assumes nothing.
use native.Mathlib.Omega.{arith}
use mathlib.Core.Path.{◌≡◌}
use Rattle.lookup.specs.Table.{runs}
use Rattle.lookup.proofs.Tables.{gathering_layable, gathering_turn, gathering_end}
use Rattle.lookup.proofs.gather.gather.Goals as goal

pub lay_list-all-requires : goal.lay_list-all-requires
lay_list-all-requires c =
    let a = c.args in
    let l = c.loop-t in
    gathering_layable a.s.now a.found.ats a.found.counts a.n l.t l.all l.ends (runs l.los l.his l.tops l.counts l.bodies) c.requires c.loop-t-test.true l.invariant

pub loop-t-preserved : goal.loop-t-preserved
loop-t-preserved c =
    let a = c.args in
    let l = c.loop-t in
    let k = c.lay_list-all in
    gathering_turn a.s.now a.found.ats a.found.counts a.n l.t l.all l.ends (runs l.los l.his l.tops l.counts l.bodies) c.requires c.loop-t-test.true l.invariant k.result (runs k.new.los k.new.his k.new.tops k.new.counts k.new.bodies) k.ensures

pub returns : goal.returns
returns c =
    let a = c.args in
    let l = c.loop-t in
    let e : l.t ≡ a.n = omega arith in
    gathering_end a.s.now a.found.ats a.found.counts a.n l.all l.ends (runs l.los l.his l.tops l.counts l.bodies) c.requires.terms (rw e at l.invariant)
