-- `lookup::find::body_of` meets its contract: each return is a law of `Shows`. Assumes nothing.
use mathlib.Core.Path.{sym, ◌∙◌}
use native.Mathlib.Omega.{arith}
use Rattle.model.specs.Refusal.{number}
use Rattle.lookup.proofs.Shows.{has_facts, body-here, body-cut, body-none}
use Rattle.lookup.proofs.find.body_of.Goals as goal

pub returns-then-not-has_block : goal.returns-then-not-has_block
returns-then-not-has_block c =
    let a = c.args in
    rw c.at.ensures (sym (body-none a.s.now a.list a.j (sym c.has_block.ensures ∙ c.if-not-has_block.true)))

pub overflow_add-list : goal.overflow_add-list
overflow_add-list c =
    let fits = has_facts c.args.s.now c.args.list c.args.j (sym c.has_block.ensures ∙ c.if-not-has_block.false) in
    omega (arith, fits.1)

pub overflow_add-list-2 : goal.overflow_add-list-2
overflow_add-list-2 c =
    let fits = has_facts c.args.s.now c.args.list c.args.j (sym c.has_block.ensures ∙ c.if-not-has_block.false) in
    omega (arith, fits.1)

pub overflow_cast-j : goal.overflow_cast-j
overflow_cast-j c =
    let fits = has_facts c.args.s.now c.args.list c.args.j (sym c.has_block.ensures ∙ c.if-not-has_block.false) in
    omega (arith, fits.0)

pub returns-in_default : goal.returns-in_default
returns-in_default c =
    let a = c.args in
    let r = c.in_default.field-0 in
    let cut = body-cut a.s.now a.list a.j (sym c.has_block.ensures ∙ c.if-not-has_block.false) (number r.fault) r.offset (sym c.in_default.ensures) in
    rw c.at-in_default.ensures (sym cut)

pub returns : goal.returns
returns c =
    let a = c.args in
    rw (body-here a.s.now a.list a.j (sym c.has_block.ensures ∙ c.if-not-has_block.false) c.in-Ok.at (sym c.in-Ok.ensures)) c.part_at.ensures
