-- `convert::turn_body` meets its contract: the body's postings, read into two runs, are written in the other layout (`Turnings`). Assumes nothing.
use native.Mathlib.Omega.{arith}
use mathlib.Core.Path.{ap}
use mathlib.Core.Bool.{not}
use mathlib.Core.List.{List}
use lib.ListN.{length}
use Rattle.model.specs.Post.{Post}
use Rattle.model.proofs.Storing.{stored_as}
use Rattle.wire.specs.Field.{field_bytes}
use Rattle.block.specs.Body.{tag_of, body_bytes}
use Rattle.convert.proofs.Turnings.{lent-posts, lent_writable}
use Rattle.convert.proofs.convert.turn_body.Goals as goal

pub put_body_field-requires : goal.put_body_field-requires
put_body_field-requires c =
    let r = c.read_body in
    lent_writable c.args.m c.args.body.now (λ i. omega (arith, c.shared_slice_known-1.given i)) c.requires.0 _ _ _ _ _ r.ensures (omega (arith, c.requires.0.fit.few)) (omega (arith, c.requires.0.fit.few))
    (not c.args.m.strip) c.args.at (length c.args.out.now) c.requires.1

pub returns : goal.returns
returns c =
    let r = c.read_body in
    let strip = not c.args.m.strip in
    stored_as (ap (λ (ps : List Post). field_bytes (tag_of strip) (body_bytes strip ps))
    (lent-posts c.args.m c.args.body.now (λ i. omega (arith, c.shared_slice_known-1.given i)) c.requires.0 _ _ _ _ _ r.ensures (omega (arith, c.requires.0.fit.few)) (omega (arith, c.requires.0.fit.few))))
    c.put_body_field.ensures
