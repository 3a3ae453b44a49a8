-- `block::body::right_body` meets its contract. The invariant: the postings fit from the start as what is left of them fits from here. Assumes nothing.
use Rattle.block.specs.Body.{fits}
use Rattle.block.specs.Cursor.{posts_at}
use mathlib.Core.Path.{◌≡◌}
use Rattle.block.proofs.body.right_body.Given as goal

abbrev pub invariant-loop-doc : goal.invariant-loop-doc
invariant-loop-doc l = fits l.greatest l.top 0 0 (posts_at l.gaps l.points l.initial.c) ≡ fits l.greatest l.top l.last l.most (posts_at l.gaps l.points l.c)

abbrev pub decreases-loop-doc : goal.decreases-loop-doc
decreases-loop-doc l = l.c.left
