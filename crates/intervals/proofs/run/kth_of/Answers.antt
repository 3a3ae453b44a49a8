-- `kth_of` meets its contract. Assumes nothing.
use mathlib.Core.Path.{◌≡◌, sym, ◌∙◌}
use lib.ListN.{length}
use Rattle.rank.proofs.Rows.{kth-rows}
use Rattle.intervals.proofs.run.kth_of.Goals as goal

pub returns : goal.returns
returns c =
    let t = c.args.kept in
    let docids : length t.docids ≡ 100 = c.well_formed.0.1.1.0.1.0.1 in
    let scored : length t.scores ≡ 100 = c.well_formed.0.1.1.1.0.1.0.1 in
    c.kth_in.ensures ∙ sym (kth-rows c.args.k t.n t.docids t.scores (docids ∙ sym scored))
