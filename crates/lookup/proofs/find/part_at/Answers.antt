-- `lookup::find::part_at` meets its contract: what `field` found. Assumes nothing.
use mathlib.Core.Path.{sym}
use native.Mathlib.Omega.{arith}
use lib.ListN.{drop}
use Rattle.wire.proofs.Fields.{field_room}
use Rattle.block.specs.Body.{is_strip, tag_of}
use Rattle.lookup.proofs.Shows.{part-there, part_none}
use Rattle.lookup.proofs.find.part_at.Goals as goal

pub returns-in_default : goal.returns-in_default
returns-in_default c = let a = c.args in rw c.at.ensures (sym (part_none a.s.now c.args.at (cc)))

pub overflow_add-start : goal.overflow_add-start
overflow_add-start c =
    let a = c.args in
    omega (arith, field_room (tag_of (is_strip (drop a.at a.s.now))) a.s.now a.at c.in-Some.len (cc))

pub overflow_add-result : goal.overflow_add-result
overflow_add-result c =
    let a = c.args in
    omega (arith, field_room (tag_of (is_strip (drop a.at a.s.now))) a.s.now a.at c.in-Some.len (cc))

pub returns : goal.returns
returns c = let a = c.args in sym (part-there a.s.now a.at c.in-Some.len (cc))
