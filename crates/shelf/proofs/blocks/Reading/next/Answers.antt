-- `shelf::blocks::Reading::next` meets its contract: none is left, or the block that `left-more` finds. Assumes nothing.
use native.Mathlib.Omega.{arith}
use mathlib.Core.Path.{refl, sym, ap, ◌∙◌}
use mathlib.Core.Bool.{Bool}
use lib.ListN.{drop}
use Rattle.block.specs.Summary.{sum_of}
use Rattle.shelf.proofs.Readings.{left-none, left-room, left-inside, left-more}
use Rattle.shelf.proofs.blocks.Reading.next.Goals as goal

pub returns-then-left-eq0 : goal.returns-then-left-eq0
returns-then-left-eq0 c = let a = c.args in (left-none a.s.now a.self.now c.if-left-eq0.true, c.if-left-eq0.true, refl)

pub overflow_add-start : goal.overflow_add-start
overflow_add-start c = let a = c.args in omega (arith, left-room a.s.now a.self.now c.if-left-eq0.false c.requires)

pub overflow_add-b : goal.overflow_add-b
overflow_add-b c = let a = c.args in omega (arith, left-room a.s.now a.self.now c.if-left-eq0.false c.requires)

pub be2-requires : goal.be2-requires
be2-requires c = let a = c.args in omega (arith, left-room a.s.now a.self.now c.if-left-eq0.false c.requires)

pub overflow_add-end : goal.overflow_add-end
overflow_add-end c =
    let a = c.args in
    omega (arith, left-inside a.s.now a.self.now c.be2.result c.if-left-eq0.false c.requires c.be2.ensures)

pub returns : goal.returns
returns c =
    let a = c.args in
    let f = left-more a.s.now a.self.now c.be2.result c.if-left-eq0.false c.requires c.be2.ensures in
    (f.0, f.1 ∙ sym (c.summary_in-summary.ensures ∙ ap (λ (x : Bool). sum_of x (drop a.self.now.sum a.s.now)) c.is_strip.ensures), f.2)
