-- `lookup::find::summary_of` meets its contract: each return is a law of `Shows`. Assumes nothing.
use mathlib.Core.Path.{sym, ◌∙◌}
use native.Mathlib.Omega.{arith}
use Rattle.lookup.proofs.Shows.{has_facts, summary-here, summary-none}
use Rattle.lookup.proofs.find.summary_of.Goals as goal

pub returns-then-not-has_block : goal.returns-then-not-has_block
returns-then-not-has_block c =
    let a = c.args in
    rw c.at.ensures (sym (summary-none a.s.now a.list a.j (sym c.has_block.ensures ∙ c.if-not-has_block.true)))

pub overflow_add-list : goal.overflow_add-list
overflow_add-list c =
    let fits = has_facts c.args.s.now c.args.list c.args.j (sym c.has_block.ensures ∙ c.if-not-has_block.false) in
    omega (arith, fits.1)

pub overflow_add-list-2 : goal.overflow_add-list-2
overflow_add-list-2 c =
    let fits = has_facts c.args.s.now c.args.list c.args.j (sym c.has_block.ensures ∙ c.if-not-has_block.false) in
    omega (arith, fits.1)

pub overflow_add-list-3 : goal.overflow_add-list-3
overflow_add-list-3 c =
    let fits = has_facts c.args.s.now c.args.list c.args.j (sym c.has_block.ensures ∙ c.if-not-has_block.false) in
    omega (arith, fits.1)

pub overflow_mul-j : goal.overflow_mul-j
overflow_mul-j c =
    let fits = has_facts c.args.s.now c.args.list c.args.j (sym c.has_block.ensures ∙ c.if-not-has_block.false) in
    omega (arith, fits.0)

pub overflow_add-list-4 : goal.overflow_add-list-4
overflow_add-list-4 c =
    let fits = has_facts c.args.s.now c.args.list c.args.j (sym c.has_block.ensures ∙ c.if-not-has_block.false) in
    omega (arith, fits.0, fits.1)

pub summary_in-requires : goal.summary_in-requires
summary_in-requires c =
    let fits = has_facts c.args.s.now c.args.list c.args.j (sym c.has_block.ensures ∙ c.if-not-has_block.false) in
    omega (arith, fits.0, fits.1)

pub returns : goal.returns
returns c =
    let a = c.args in
    rw (summary-here a.s.now a.list a.j (sym c.has_block.ensures ∙ c.if-not-has_block.false), c.summary_in.ensures, c.is_strip-strip.ensures)
