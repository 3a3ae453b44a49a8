-- `lent::rows::fill` meets its contract: each turn writes one hit more. Assumes nothing.
use mathlib.Core.Path.{◌≡◌, ◌∙◌}
use lib.ListN.{set, take}
use Rattle.lent.specs.Rows.{with_hits}
use Rattle.lent.proofs.Hits.{hit_at, first_hits, one_more}
use Rattle.lent.proofs.rows.fill.Goals as goal

pub loop-i-preserved : goal.loop-i-preserved
loop-i-preserved c =
    let t = c.args.kept in
    let old = c.args.rows.now in
    let n = c.held-n.result in
    let i = c.loop-i.i in
    let written : set c.loop-i.row-items i (hit_at t i) ≡ set (with_hits (first_hits t i) (take n old)) i (hit_at t i) = cc in
    written ∙ one_more t old n c.held-n.ensures i c.loop-i-test.true
