-- `change::seat::held` meets its contract: by what the reader fills, or by nothing. Assumes nothing.
use mathlib.Core.Path.{◌≡◌}
use lib.ListN.{length}
use Rattle.list.specs.Fill.{Fillable}
use Rattle.change.specs.declared.seat.Seat.TheVariants.{Taken}
use Rattle.change.proofs.News.{held-taken}
use Rattle.change.proofs.seat.held.Goals as goal

pub returns-in-Taken : goal.returns-in-Taken
returns-in-Taken c =
    let e : c.args.seat ≡ Taken c.in-Taken.p = cc in
    let f : Fillable c.args.s.now c.in-Taken.p (length c.args.docs.now) (length c.args.scores.now) = rw e at c.requires in
    rw e (held-taken c.args.s.now c.in-Taken.p c.args.docs.now c.args.scores.now _ _ _ f c.fill.ensures)
