-- `Head::skipped` meets its contract: past each posting below `first`, what is left from `first` on is the same. Assumes nothing.
use Prim.Native.Nat.{ℕ}
use mathlib.Core.Path.{◌≡◌}
use lib.ListN.{length}
use Rattle.rank.specs.Run.{skip_term}
use Rattle.scan.specs.Heads.{InBuffers, OwnPart, term_of, head_posts, skip_head}
use Rattle.scan.proofs.head.Head.skipped.Given as goal

abbrev pub invariant-loop-h : goal.invariant-loop-h
invariant-loop-h l = InBuffers l.docs l.scores l.h × (skip_term l.first (term_of l.docs l.scores l.h) ≡ skip_term l.first (term_of l.docs l.scores l.initial.h)) × ((t : ℕ) → OwnPart t l.initial.h → OwnPart t l.h) × (skip_head l.docs l.scores l.first l.h ≡ skip_head l.docs l.scores l.first l.initial.h)

abbrev pub decreases-loop-h : goal.decreases-loop-h
decreases-loop-h l = length (head_posts l.docs l.scores l.h)
