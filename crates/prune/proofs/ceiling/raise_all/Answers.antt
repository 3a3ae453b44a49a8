-- `raise_all` meets its contract: what is raised and what is left to raise, and a place that no interval to come lies before. Assumes nothing.
use native.Mathlib.Omega.{arith}
use Rattle.prune.specs.Gather.{blocks_of}
use Rattle.prune.proofs.Books.{raising_more, below_next}
use Rattle.prune.proofs.ceiling.raise_all.Goals as goal

pub loop-k-preserved : goal.loop-k-preserved
loop-k-preserved c =
    let a = c.args in
    let q = c.requires in
    let top = c.top_in-top in
    let r = c.reach-j in (
      raising_more a.w (blocks_of a.los.now a.his.now a.tops.now) a.starts.now a.out.now c.loop-k.out c.loop-k.k top.result q.3 c.loop-k.invariant.0 (omega arith) top.ensures.is,
      r.ensures.j_in,
      λ l. below_next a.starts.now a.his.now r.result c.loop-k.k q.1 r.ensures.below l,
    )
