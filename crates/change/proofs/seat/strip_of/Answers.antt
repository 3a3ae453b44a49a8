-- `change::seat::strip_of` meets its contract: a list's layout is told by its first body (`News`). Assumes nothing.
use mathlib.Core.Path.{◌≡◌}
use Rattle.change.specs.Seat.{Stood}
use Rattle.change.specs.declared.seat.Seat.TheVariants.{Taken}
use Rattle.change.proofs.News.{strip-taken}
use Rattle.change.proofs.seat.strip_of.Goals as goal

pub returns-in-Taken : goal.returns-in-Taken
returns-in-Taken c =
    let e : c.args.seat ≡ Taken c.in-Taken.p = cc in
    let h : Stood (Taken c.in-Taken.p) = rw e at c.requires in
    rw (e, strip-taken c.args.s.now c.in-Taken.p h) c.is_strip.ensures
