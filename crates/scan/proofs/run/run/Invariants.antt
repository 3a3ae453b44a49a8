-- `run` meets its contract. The outer invariant: the kept rows, with the run over what the heads still have, give what they gave at the start.
-- The measure is the number of postings left. The inner loops are the two passes over the heads. Assumes nothing.
use Prim.Native.Nat.{◌≤◌, ◌+◌, ◌*◌, min}
use mathlib.Core.Path.{◌≡◌}
use mathlib.Core.List.{◌++◌, map}
use lib.ListN.{take, drop}
use Rattle.rank.specs.Run.{none, size}
use Rattle.scan.specs.Heads.{least, sum_at, step_if, terms}
use Rattle.scan.specs.Run.{Idle}
use Rattle.scan.proofs.Turns.{Running}
use Rattle.scan.proofs.run.run.Given as goal

-- the first pass
abbrev pub invariant-loop-h-2 : goal.invariant-loop-h-2
invariant-loop-h-2 l = (l.d ≤ none) × (least l.h-items ≡ min l.d (least (drop l.h-index l.h-items)))

-- the second pass
abbrev pub invariant-loop-h-3 : goal.invariant-loop-h-3
invariant-loop-h-3 l = (l.s ≤ 16711425 * l.h-index) × (l.h-items ≡ map (step_if l.docs l.scores l.d) (take l.h-index l.initial.h-items) ++ drop l.h-index l.initial.h-items) × (sum_at l.d l.initial.h-items ≡ l.s + sum_at l.d (drop l.h-index l.initial.h-items))

abbrev pub invariant-loop-h : goal.invariant-loop-h
invariant-loop-h l = Running l.docs l.scores l.initial.hs l.last l.k (record { docids = l.initial.best; scores = l.initial.sums; n = l.initial.n }) l.hs l.best l.sums l.n × Idle l.m l.hs

abbrev pub decreases-loop-h : goal.decreases-loop-h
decreases-loop-h l = size (terms l.docs l.scores l.hs)
