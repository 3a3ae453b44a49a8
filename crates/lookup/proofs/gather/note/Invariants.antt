-- `lookup::gather::note` meets its contract. The invariant: the list is noted for the terms before i. Assumes nothing.
use mathlib.Core.Path.{◌≡◌}
use lib.ListN.{take}
use Rattle.lookup.specs.Gather.{noted}
use Rattle.lookup.proofs.gather.note.Given as goal

abbrev pub invariant-loop-i : goal.invariant-loop-i
invariant-loop-i l = (l.ats ≡ noted l.list.term l.list.at (take l.i l.terms) l.initial.ats) × (l.counts ≡ noted l.list.term l.list.count (take l.i l.terms) l.initial.counts)
