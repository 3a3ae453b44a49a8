-- `show` meets its contract: what the search answers is printed. Assumes nothing.
use native.Mathlib.Omega.{arith}
use mathlib.Core.Path.{subst, ◌∙◌}
use Rattle.model.specs.Outcome.{Outcome}
use Rattle.model.specs.Runs.{Holds}
use Rattle.lines.specs.Text.{Shown, text}
use Rattle.report.proofs.Finds.{lent, asked, shown-lent, finds_told, finds_printable}
use Rattle.report.proofs.report.show.Goals as goal

pub print-requires : goal.print-requires
print-requires c =
    let found = c.search-found in
    let a = c.args in (
      omega (arith, c.requires.output),
      finds_printable a.firsts.now a.ceilings.now a.marks.now found.new.firsts found.new.ceilings found.new.marks (lent a.query.now a.shelf.now)
          found.result
          (asked _ _ _ _ _ _ _ _ _ c.requires.firsts c.requires.ceilings c.requires.marks found.ensures) (omega (arith, c.requires.firsts)),
    )

pub returns : goal.returns
returns c =
    let found = c.search-found in
    let a = c.args in
    subst (λ (o : Outcome Shown). Holds a.out.now (text o) c.print.new.out c.print.result)
    (finds_told a.firsts.now a.ceilings.now a.marks.now found.new.firsts found.new.ceilings found.new.marks (lent a.query.now a.shelf.now)
    found.result
    (asked _ _ _ _ _ _ _ _ _ c.requires.firsts c.requires.ceilings c.requires.marks found.ensures) ∙ shown-lent a.query.now a.shelf.now)
    c.print.ensures
