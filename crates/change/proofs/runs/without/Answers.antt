-- `change::runs::without` meets its contract. The invariant: of the postings passed, those that stay are in front (`Runnings`). Assumes nothing.
use Prim.Native.Nat.{◌+◌}
use Rattle.change.proofs.Runnings.{clear_stays, clear_goes, clear_as}
use Rattle.change.proofs.runs.without.Goals.{else-x-d, then-x-d}
use Rattle.change.proofs.runs.without.Goals as goal

pub loop-i-preserved : goal.loop-i-preserved
loop-i-preserved c =
    let l = c.loop-i in
    let t = c.loop-i-test.true in
    let a = c.args in
    (elim c.if-x-d.branch [
      | then-x-d w ↦ clear_as a.d a.n a.docs.now a.scores.now c.requires.0 c.requires.1 (l.i + 1) w.docs-is w.scores-is w.j-is
          (clear_stays a.d a.n a.docs.now a.scores.now c.requires.0 c.requires.1 l.docs l.scores l.i l.j t l.invariant w.if-x-d.true)
      | else-x-d w ↦ clear_as a.d a.n a.docs.now a.scores.now c.requires.0 c.requires.1 (l.i + 1) w.docs-is w.scores-is w.j-is
          (clear_goes a.d a.n a.docs.now a.scores.now c.requires.0 c.requires.1 l.docs l.scores l.i l.j t l.invariant w.if-x-d.false)
    ])
