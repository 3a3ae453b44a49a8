use native.Mathlib.Omega.{arith}
use Rattle.prune.proofs.Wholes.{walking_more}
use Rattle.prune.proofs.cut.all_cuts.Goals as goal

pub loop-end-preserved : goal.loop-end-preserved
loop-end-preserved c =
    let a = c.args in
    let q = c.requires in
    let s = c.loop-end in
    let r = c.add_list-n in
    walking_more a.lim a.ends.now a.los.now a.his.now a.run.now s.run s.n s.from s.end-index s.invariant (omega arith) r.new.run r.result r.auto.run q.2 r.ensures
