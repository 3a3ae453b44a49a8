-- `list::put_bodies` meets its contract. The invariant: to store the bodies of the blocks that are left gives what is asked. Assumes nothing.
use Rattle.model.specs.Post.{postings}
use Rattle.model.proofs.Storing.{Rest}
use Rattle.list.specs.Write.{packed, bodies_bytes}
use Rattle.list.proofs.Packing.{Cut, posts_left}
use Rattle.list.proofs.write.put_bodies.Given as goal

abbrev pub invariant-loop-d : goal.invariant-loop-d
invariant-loop-d l = Cut l.d-iterator × Rest l.initial.out l.out l.at l.j (bodies_bytes l.strip (packed 64 (postings l.docs l.scores))) (bodies_bytes l.strip (packed 64 (posts_left l.d-iterator)))
