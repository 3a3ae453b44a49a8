-- `skip_shut` meets its contract. Assumes nothing.
use mathlib.Core.Path.{◌≡◌, sym, ◌∙◌}
use native.Mathlib.Omega.{arith}
use Rattle.intervals.proofs.Marks.{passing_none, passing_more, passing_done}
use Rattle.intervals.proofs.book.skip_shut.Goals as goal

pub loop-i-init : goal.loop-i-init
loop-i-init c = passing_none _ _ _ _ _ (omega arith)

pub returns-then-opens : goal.returns-then-opens
returns-then-opens c = passing_done _ _ _ _ _ _ _ (λ l. sym c.opens.ensures ∙ c.if-opens.true) c.loop-i.invariant

pub loop-i-preserved : goal.loop-i-preserved
loop-i-preserved c = passing_more _ _ _ _ _ _ _ (omega arith) (sym c.opens.ensures ∙ c.if-opens.false) c.loop-i.invariant

pub returns : goal.returns
returns c =
    let e : c.loop-i.i ≡ c.args.n = omega arith in
    rw e at (passing_done _ _ _ _ _ _ _ (λ l. absurd (omega arith)) c.loop-i.invariant)
