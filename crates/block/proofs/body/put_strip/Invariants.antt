-- `block::body::put_strip` meets its contract. The invariant: to store what is left of the scores from here gives what is asked. Assumes nothing.
use Rattle.model.specs.Post.{postings}
use Rattle.model.proofs.Storing.{Rest}
use Rattle.model.proofs.Posts.{from}
use Rattle.block.specs.Body.{back_bytes}
use Rattle.block.proofs.body.put_strip.Given as goal

abbrev pub invariant-loop-s : goal.invariant-loop-s
invariant-loop-s l = Rest l.initial.out l.out l.at l.j (back_bytes l.strip (postings l.docs l.scores)) (back_bytes l.strip (from l.s-index l.docs l.scores))
