-- `block::body::put_body` meets its contract: the first score in its turn, then the rest, then a strip's scores. Assumes nothing.
use Rattle.model.proofs.Storing.{stored-append, stored_as, stored-length, part_end}
use Rattle.model.proofs.Posts.{even_tail}
use Rattle.block.proofs.Bodies.{body_cons, body-parts}
use native.Mathlib.Omega.{arith}
use mathlib.Core.Path.{sym}
use Rattle.block.proofs.body.put_body.Goals as goal

pub put_in_turn-j-requires : goal.put_in_turn-j-requires
put_in_turn-j-requires c =
    let a = c.args in
    let q = c.requires in
    omega (arith, q.2, body-parts a.strip a.docs.now a.scores.now q.1.same q.0)

pub put_later-k-requires : goal.put_later-k-requires
put_later-k-requires c =
    let a = c.args in
    let q = c.requires in
    let s = c.put_in_turn-j.ensures in
    rw (part_end 1 a.docs.now, part_end 1 a.scores.now)
    (even_tail 0 a.docs.now a.scores.now q.0 q.1, omega (arith, q.2, body-parts a.strip a.docs.now a.scores.now q.1.same q.0, stored-length s, s.past))

pub put_strip-requires : goal.put_strip-requires
put_strip-requires c =
    let a = c.args in
    let q = c.requires in
    let s = c.put_in_turn-j.ensures in
    let t = rw (part_end 1 a.docs.now, part_end 1 a.scores.now) at c.put_later-k.ensures in
    (q.1.same, omega (arith, q.2, body-parts a.strip a.docs.now a.scores.now q.1.same q.0, stored-length s, s.past, stored-length t, t.past))

pub returns : goal.returns
returns c =
    let a = c.args in
    let q = c.requires in
    let t = rw (part_end 1 a.docs.now, part_end 1 a.scores.now) at c.put_later-k.ensures in
    stored_as (sym (body_cons a.strip a.docs.now a.scores.now q.1.same q.0)) (stored-append (stored-append c.put_in_turn-j.ensures t) c.put_strip.ensures)
