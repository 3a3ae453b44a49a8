-- `block::body::put_later` meets its contract. The invariant: to store what is left of the postings from here gives what is asked. Assumes nothing.
use Rattle.std.specs.Iterator.Adapters.{zip_first, zip_second}
use Rattle.std.specs.Slice.Iter.{iter_rest}
use Rattle.model.specs.Post.{postings, Rising}
use Rattle.model.proofs.Storing.{Rest}
use Rattle.block.specs.Body.{later_bytes}
use Rattle.block.proofs.body.put_later.Given as goal

abbrev pub invariant-loop-d : goal.invariant-loop-d
invariant-loop-d l =
    let ps = postings (iter_rest (zip_first l.d-iterator)) (iter_rest (zip_second l.d-iterator)) in
    Rising l.p ps × Rest l.initial.out l.out l.at l.j (later_bytes l.strip l.first (postings l.docs l.scores)) (later_bytes l.strip l.p ps)
