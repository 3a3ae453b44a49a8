-- `skip_all` meets its contract: the heads are skipped in place, from the front. Assumes nothing.
use mathlib.Core.Path.{◌≡◌}
use native.Mathlib.Omega.{arith}
use lib.ListN.{length}
use Rattle.scan.proofs.Terms.{skipping_turn}
use Rattle.scan.proofs.run.skip_all.Goals as goal

pub loop-h-preserved : goal.loop-h-preserved
loop-h-preserved c =
    let long : length c.args.heads ≡ 8 = c.well_formed.0.1.0.1 in
    skipping_turn c.args.docs.now c.args.scores.now c.args.first c.args.heads c.loop-h.h-items c.loop-h.h-index c.loop-h.invariant (long) c.skipped.result (omega arith) c.skipped.ensures
