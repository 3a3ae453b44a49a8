-- `list::put_body_field` meets its contract: the length, the field's head, the body. Assumes nothing.
use native.Mathlib.Omega.{arith}
use Prim.Native.Nat.{ℕ}
use mathlib.Core.Path.{ap, ◌∙◌}
use Rattle.model.specs.Post.{postings}
use Rattle.model.proofs.Posts.{count_of}
use Rattle.model.proofs.Storing.{stored-append, stored_as, stored-length}
use Rattle.wire.proofs.Numbers.{be-length}
use Rattle.wire.proofs.Fields.{field-size}
use Rattle.wire.specs.Field.{field_bytes}
use Rattle.block.specs.Body.{tag_of, body_bytes}
use Rattle.list.proofs.Writes.{body-few}
use Rattle.list.proofs.Packing.{field-parts}
use Rattle.list.proofs.write.put_body_field.Goals as goal

pub overflow_cast-n : goal.overflow_cast-n
overflow_cast-n c =
    let a = c.args in
    let q = c.requires in
    omega (arith, c.body_len-n.ensures a.strip, body-few a.strip (postings a.docs.now a.scores.now), count_of a.docs.now a.scores.now q.2.same)

pub put_head-a-requires : goal.put_head-a-requires
put_head-a-requires c =
    let a = c.args in
    omega (arith, c.requires.3, field-size (tag_of a.strip) (body_bytes a.strip (postings a.docs.now a.scores.now)))

pub put_body-requires : goal.put_body-requires
put_body-requires c =
    let a = c.args in
    let q = c.requires in
    let h = c.put_head-a.ensures in
    (q.0, q.2, omega (arith, h.past, stored-length h, be-length 2 c.body_len-n.result, field-size (tag_of a.strip) (body_bytes a.strip (postings a.docs.now a.scores.now)), q.3))

pub returns : goal.returns
returns c =
    let a = c.args in
    let n = c.body_len-n in
    let t = c.tag_of in
    let v = body_bytes a.strip (postings a.docs.now a.scores.now) in
    stored_as (field-parts t.result n.result v (n.ensures a.strip) ∙ ap (λ (x : ℕ). field_bytes x v) t.ensures)
    (stored-append c.put_head-a.ensures c.put_body.ensures)
