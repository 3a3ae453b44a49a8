-- `edit::holds` meets its contract. The invariant: the docid is sought in the postings of the blocks left (`Seekings`). Assumes nothing.
use mathlib.Core.Path.{sym, ap, ◌∙◌}
use Rattle.shelf.specs.Walk.{posts_of}
use Rattle.shelf.specs.Blocks.{blocks_left}
use Rattle.edit.proofs.Seekings.{seek-none, look-start, look-rise, look-on, look-here, look-all}
use Rattle.edit.proofs.holds.holds.Goals as goal

pub loop-b-init : goal.loop-b-init
loop-b-init c =
    look-start c.args.s.now c.args.d c.args.list c.new-reading.result c.requires c.new-reading.ensures

pub body_holds-requires : goal.body_holds-requires
body_holds-requires c =
    let f = c.in-Some.ensures in
    let b = c.in-Some.b in
    let l = c.loop-b in
    let s = c.args.s.now in
    look-rise s c.args.d (blocks_left s c.new-reading.result) l.reading f.0 b.start b.end c.next.new.self b.summary f.1 f.2 l.invariant

pub returns-then-d-b : goal.returns-then-d-b
returns-then-d-b c =
    let f = c.in-Some.ensures in
    let b = c.in-Some.b in
    let l = c.loop-b in
    let a = c.args in
    let s = a.s.now in
    c.body_holds.ensures
    ∙ sym (look-here s a.d (blocks_left s c.new-reading.result) l.reading f.0 b.start b.end c.next.new.self b.summary f.1 f.2 l.invariant c.if-d-b.true)
    ∙ look-all s a.d a.list c.new-reading.result c.new-reading.ensures

pub loop-b-preserved : goal.loop-b-preserved
loop-b-preserved c =
    let f = c.in-Some.ensures in
    let b = c.in-Some.b in
    let l = c.loop-b in
    let s = c.args.s.now in
    look-on s c.args.d (blocks_left s c.new-reading.result) l.reading f.0 b.start b.end c.next.new.self b.summary f.1 f.2 l.invariant c.if-d-b.false

pub returns : goal.returns
returns c =
    let a = c.args in
    let n = c.new-reading in
    let l = c.loop-b in
    sym (seek-none (ap posts_of c.in_default.ensures.0) l.invariant.seeks) ∙ look-all a.s.now a.d a.list n.result n.ensures
