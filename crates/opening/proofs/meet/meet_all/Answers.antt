-- `meet_all` meets its contract: the lists that have moved, and those that have not. Assumes nothing.
use Prim.Native.Nat.{◌≤◌}
use lib.ListN.{get_or}
use native.Mathlib.Omega.{arith}
use Rattle.opening.proofs.Meets.{moving_none, moving_more, moving_done}
use Rattle.opening.proofs.meet.meet_all.Goals as goal

pub loop-t-init : goal.loop-t-init
loop-t-init c = moving_none _ _ _ _ _ _ c.requires.0.places c.requires.1

pub reach-j-requires : goal.reach-j-requires
reach-j-requires c =
    let p = c.requires.0 in
    let l = c.loop-t in
    let e : get_or l.ats l.t 0 ≤ get_or c.args.ends.now l.t 0 = rw (l.invariant.rest l.t (omega arith)) (p.before l.t (omega arith)) in
    (e, p.greatest l.t (omega arith))

pub met-requires : goal.met-requires
met-requires c = c.requires.0.least c.loop-t.t (omega arith)

pub loop-t-preserved : goal.loop-t-preserved
loop-t-preserved c = moving_more _ _ _ _ _ _ _ _ _ _ _ (omega arith) c.loop-t.invariant c.reach-j.ensures c.met.ensures

pub returns : goal.returns
returns c = moving_done _ _ _ _ _ _ _ _ _ (omega arith) c.loop-t.invariant
