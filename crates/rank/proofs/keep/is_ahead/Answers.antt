-- `is_ahead` meets its contract, by the laws that tie the test `ahead` to the numbers. Assumes nothing.
use mathlib.Core.Path.{sym, ◌∙◌}
use mathlib.Core.Logic.{inl}
use native.Mathlib.Omega.{arith}
use borrow.Author.Tests.{lt-ltb, ne_eqb}
use Rattle.rank.proofs.Order.{before-ahead, behind-ahead, ahead_tie}
use Rattle.rank.proofs.keep.is_ahead.Goals as goal

pub returns-then-t-s : goal.returns-then-t-s
returns-then-t-s c = lt-ltb _ _ c.if-t-s.true ∙ sym (before-ahead _ _ (inl (omega arith)))

pub returns-then-s-t : goal.returns-then-s-t
returns-then-s-t c = sym (ahead_tie _ _ (omega arith))

pub returns-else-s-t : goal.returns-else-s-t
returns-else-s-t c = ne_eqb _ _ c.if-s-t.false ∙ sym (behind-ahead _ _ (inl (omega (arith, c.if-s-t.false))))
