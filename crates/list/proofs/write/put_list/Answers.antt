-- `list::put_list` meets its contract: the header, the summaries, the bodies, one after the other. Assumes nothing.
use native.Mathlib.Omega.{arith}
use Rattle.model.specs.Post.{postings}
use Rattle.model.proofs.Posts.{count_of}
use Rattle.model.proofs.Storing.{stored-append, stored_as, stored-length}
use Rattle.list.proofs.Packing.{packed-count, header_past, list-room, list-parts}
use Rattle.list.proofs.write.put_list.Goals as goal

pub overflow_cast-count : goal.overflow_cast-count
overflow_cast-count c =
    omega (arith, count_of c.args.docs.now c.args.scores.now c.requires.0.same, c.requires.0.may.few)

pub put_header-a-requires : goal.put_header-a-requires
put_header-a-requires c =
    omega (arith, list-room c.args.strip c.args.term (postings c.args.docs.now c.args.scores.now), c.requires.1)

pub put_summaries-b-requires : goal.put_summaries-b-requires
put_summaries-b-requires c =
    let h = c.put_header-a.ensures in
    (c.requires.0, omega (arith, list-room c.args.strip c.args.term (postings c.args.docs.now c.args.scores.now), c.requires.1, header_past c.args.term c.div_ceil-count.result h, stored-length h))

pub put_bodies-requires : goal.put_bodies-requires
put_bodies-requires c =
    let h = c.put_header-a.ensures in
    let s = c.put_summaries-b.ensures in
    (c.requires.0, omega (arith, list-room c.args.strip c.args.term (postings c.args.docs.now c.args.scores.now), c.requires.1, header_past c.args.term c.div_ceil-count.result h, stored-length h, s.past, stored-length s))

pub returns : goal.returns
returns c =
    let ps = postings c.args.docs.now c.args.scores.now in
    let n = count_of c.args.docs.now c.args.scores.now c.requires.0.same in
    stored_as (list-parts c.args.strip c.args.term _ ps (omega (arith, n, packed-count 64 ps c.requires.0.may.few)))
    (stored-append c.put_header-a.ensures
    (stored-append c.put_summaries-b.ensures c.put_bodies.ensures))
