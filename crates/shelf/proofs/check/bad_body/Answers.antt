-- `shelf::check::bad_body` meets its contract. The invariant: the first wrong body of all is the first of those that are left (`Readings`). Assumes nothing.
use mathlib.Core.Path.{◌≡◌, sym, ap, ◌∙◌}
use Rattle.shelf.specs.Blocks.{blocks_left}
use Rattle.shelf.specs.Walk.{blocks_at}
use Rattle.shelf.specs.Check.{bad_body}
use Rattle.shelf.proofs.Readings.{start_left_lem, judge-start, judge-wrong, judge-none}
use Rattle.shelf.proofs.check.bad_body.Goals as goal

pub loop-b-init : goal.loop-b-init
loop-b-init c = judge-start c.args.s.now c.args.list c.new-reading.result c.requires c.new-reading.ensures

pub returns-then-not-right_body : goal.returns-then-not-right_body
returns-then-not-right_body c =
    let a = c.args in
    let started : blocks_left a.s.now c.new-reading.result ≡ blocks_at a.s.now a.list.at a.list.count = rw c.new-reading.ensures (start_left_lem a.s.now a.list) in
    let f = c.in-Some.ensures in
    let b = c.in-Some.b in
    let first = judge-wrong a.s.now c.new-reading.result c.loop-b.reading f.0 b.start b.end c.next.new.self b.summary f.1 f.2 c.loop-b.invariant (sym c.if-not-right_body.ensures) in
    sym first ∙ ap bad_body started

pub returns : goal.returns
returns c =
    let a = c.args in
    let started : blocks_left a.s.now c.new-reading.result ≡ blocks_at a.s.now a.list.at a.list.count = rw c.new-reading.ensures (start_left_lem a.s.now a.list) in
    sym (judge-none a.s.now c.new-reading.result c.loop-b.reading c.in_default.ensures.0 c.loop-b.invariant) ∙ ap bad_body started
