-- `embed::put_rows` meets its contract: both columns of the kept rows. Assumes nothing.
use native.Mathlib.Omega.{arith}
use mathlib.Core.Path.{◌≡◌}
use lib.ListN.{length}
use borrow.Author.Rules.{rules}
use Rattle.embed.proofs.Ranks.{both_columns}
use Rattle.embed.proofs.rows.put_rows.Goals as goal

pub returns : goal.returns
returns c =
    let kept = c.args.kept in
    let a : length kept.docids ≡ 100 = search rules in
    let b : length kept.scores ≡ 100 = search rules in
    both_columns kept.n kept.docids kept.scores _ _ _ _ (omega (arith, a, b)) (omega (arith, a, c.requires.few)) c.copy_from_slice.ensures.after c.copy_from_slice-2.ensures.after
