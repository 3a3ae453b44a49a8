-- `over_intervals` meets its contract: the state between two intervals. Assumes nothing.
use Prim.Native.Nat.{◌-◌, ◌<◌}
use mathlib.Core.Path.{◌≡◌}
use mathlib.Core.Bool.{true}
use lib.ListN.{length, get_or}
use Rattle.model.specs.Limits.{max_docid}
use Rattle.rank.specs.Match.{any_list}
use Rattle.rank.specs.Keep.{kept_of}
use Rattle.prune.specs.Search.{opens}
use Rattle.prune.specs.Prune.{never, spans}
use Rattle.opening.specs.Table.{block_in, lists_in}
use Rattle.intervals.proofs.Spans.{no_span}
use Rattle.intervals.proofs.Runnings.{Past}
use Rattle.intervals.proofs.run.over_intervals.Given as goal

abbrev pub invariant-loop-i : goal.invariant-loop-i
invariant-loop-i l = Past l.shelf l.ends l.blocks.los.now l.blocks.his.now l.blocks.tops.now l.blocks.counts.now l.blocks.bodies.now l.weights l.k l.starts l.initial.marks l.i l.kept l.opened l.heads l.docs l.scores l.ats l.mets l.marks × (l.i < length l.starts → opens l.k (kept_of l.kept) (get_or (spans any_list never max_docid (lists_in (block_in l.shelf l.blocks.los.now l.blocks.his.now l.blocks.tops.now l.blocks.counts.now l.blocks.bodies.now) l.ends l.weights)) l.i (no_span max_docid (lists_in (block_in l.shelf l.blocks.los.now l.blocks.his.now l.blocks.tops.now l.blocks.counts.now l.blocks.bodies.now) l.ends l.weights))) ≡ true)

abbrev pub decreases-loop-i : goal.decreases-loop-i
decreases-loop-i l = length l.starts - l.i
