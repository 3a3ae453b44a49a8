-- `list::read::fill` meets its contract. The invariant: the postings poured and those of the blocks left are all (`Pours`). Assumes nothing.
use native.Mathlib.Omega.{arith}
use Rattle.shelf.specs.Blocks.{blocks_left}
use Rattle.list.proofs.Pours.{pour_start, pour_turn, pour_done}
use Rattle.list.proofs.read.fill.Goals as goal

pub loop-b-init : goal.loop-b-init
loop-b-init c =
    pour_start c.args.s.now c.args.list c.new-reading.result c.args.docids.now c.args.scores.now c.requires (omega arith) c.new-reading.ensures

pub loop-b-preserved : goal.loop-b-preserved
loop-b-preserved c =
    let f = c.in-Some.ensures in
    let b = c.in-Some.b in
    let l = c.loop-b in
    let s = c.args.s.now in
    pour_turn s (blocks_left s c.new-reading.result) c.args.docids.now c.args.scores.now l.docids l.scores l.reading l.i f.0 b.start b.end c.next.new.self b.summary f.1 (omega arith) f.2 l.invariant
    c.read_body.new.docs c.read_body.new.scores c.read_body.result c.read_body.ensures

pub returns : goal.returns
returns c =
    let a = c.args in
    let n = c.new-reading in
    let l = c.loop-b in
    pour_done a.s.now a.list n.result a.docids.now a.scores.now l.docids l.scores l.reading l.i n.ensures c.in_default.ensures.0 l.invariant
