-- `block::put_summary` meets its contract: five stores, one after the other. Assumes nothing.
use Rattle.model.proofs.Storing.{stored-append, stored_as, stored-length}
use Rattle.wire.proofs.Numbers.{be-length}
use Rattle.block.proofs.Summaries.{sum-parts}
use native.Mathlib.Omega.{arith}
use Rattle.block.proofs.summary.put_summary.Goals as goal

pub put3-b-requires : goal.put3-b-requires
put3-b-requires c = (c.requires.0, omega (arith, be-length 2 9, be-length 3 c.args.m.least, be-length 3 c.args.m.greatest, be-length 2 c.args.m.top, stored-length c.put_head-a.ensures, c.put_head-a.ensures.past))

pub put3-c-requires : goal.put3-c-requires
put3-c-requires c = (c.requires.1, omega (arith, be-length 2 9, be-length 3 c.args.m.least, be-length 3 c.args.m.greatest, be-length 2 c.args.m.top, stored-length c.put_head-a.ensures, c.put_head-a.ensures.past, stored-length c.put3-b.ensures, c.put3-b.ensures.past))

pub put2-d-requires : goal.put2-d-requires
put2-d-requires c = omega (arith, be-length 2 9, be-length 3 c.args.m.least, be-length 3 c.args.m.greatest, be-length 2 c.args.m.top, stored-length c.put_head-a.ensures, c.put_head-a.ensures.past, stored-length c.put3-b.ensures, c.put3-b.ensures.past, stored-length c.put3-c.ensures, c.put3-c.ensures.past)

pub put1-requires : goal.put1-requires
put1-requires c = omega (arith, be-length 2 9, be-length 3 c.args.m.least, be-length 3 c.args.m.greatest, be-length 2 c.args.m.top, stored-length c.put_head-a.ensures, c.put_head-a.ensures.past, stored-length c.put3-b.ensures, c.put3-b.ensures.past, stored-length c.put3-c.ensures, c.put3-c.ensures.past, stored-length c.put2-d.ensures, c.put2-d.ensures.past)

pub returns : goal.returns
returns c =
    stored_as (sum-parts c.args.m)
    (stored-append c.put_head-a.ensures (stored-append c.put3-b.ensures (stored-append c.put3-c.ensures (stored-append c.put2-d.ensures c.put1.ensures))))
