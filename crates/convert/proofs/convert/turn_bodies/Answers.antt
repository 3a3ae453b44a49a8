-- `convert::turn_bodies` meets its contract. The invariant: the bodies turned and those of the blocks left, turned, are all (`Turnings`). Assumes nothing.
use native.Mathlib.Omega.{arith}
use Rattle.shelf.specs.Walk.{strip_of}
use Rattle.shelf.specs.Blocks.{blocks_left}
use Rattle.convert.specs.Convert.{turned_bodies}
use Rattle.convert.proofs.Turnings.{turning-start, turning-on, turning-done}
use Rattle.convert.proofs.convert.turn_bodies.Goals as goal

pub loop-b-init : goal.loop-b-init
loop-b-init c =
    turning-start c.args.s.now c.args.list c.new-reading.result c.args.out.now c.requires c.new-reading.ensures

pub loop-b-preserved : goal.loop-b-preserved
loop-b-preserved c =
    let f = c.in-Some.ensures in
    let b = c.in-Some.b in
    let l = c.loop-b in
    let a = c.args in
    let n = c.new-reading.result in
    turning-on a.s.now (strip_of (blocks_left a.s.now n)) n.body (turned_bodies (blocks_left a.s.now n)) a.out.now l.out l.reading (λ i. omega (arith, c.type_inv.s i)) f.0 b.start b.end c.next.new.self b.summary f.1 f.2 l.invariant c.turn_body.new.out c.turn_body.result c.turn_body.ensures

pub returns : goal.returns
returns c =
    let a = c.args in
    let n = c.new-reading in
    let l = c.loop-b in
    turning-done a.s.now a.list n.result a.out.now l.out l.reading n.ensures c.in_default.ensures.0 l.invariant
