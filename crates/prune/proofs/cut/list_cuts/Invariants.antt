use mathlib.Core.List.{[]}
use lib.ListN.{length}
use Rattle.prune.proofs.Gathers.{Gathering}
use Rattle.prune.proofs.cut.list_cuts.Given as goal

abbrev pub invariant-loop-least : goal.invariant-loop-least
invariant-loop-least l = Gathering l.lim [] l.los l.his l.initial.out l.out l.n (length l.yielded)
