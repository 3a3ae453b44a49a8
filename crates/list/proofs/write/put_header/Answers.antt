-- `list::put_header` meets its contract: three stores, one after the other. Assumes nothing.
use native.Mathlib.Omega.{arith}
use Rattle.model.proofs.Storing.{stored-append, stored_as, stored-length}
use Rattle.wire.proofs.Numbers.{be-length}
use Rattle.list.proofs.Packing.{header_parts}
use Rattle.list.proofs.write.put_header.Goals as goal

pub put4-b-requires : goal.put4-b-requires
put4-b-requires c =
    let h = c.put_head-a.ensures in
    omega (arith, h.past, stored-length h, be-length 2 5)

pub put1-requires : goal.put1-requires
put1-requires c =
    let h = c.put_head-a.ensures in
    let t = c.put4-b.ensures in
    omega (arith, h.past, stored-length h, be-length 2 5, t.past, stored-length t, be-length 4 c.args.term)

pub returns : goal.returns
returns c =
    let a = c.args in
    stored_as (header_parts a.term a.count)
    (stored-append c.put_head-a.ensures (stored-append c.put4-b.ensures c.put1.ensures))
