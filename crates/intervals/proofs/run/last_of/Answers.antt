-- `last_of` meets its contract. Assumes nothing.
use native.Mathlib.Omega.{arith}
use borrow.Author.Tests.{lt-ltb, le-ltb}
use Rattle.intervals.proofs.run.last_of.Goals as goal

pub overflow_sub-result : goal.overflow_sub-result
overflow_sub-result c = omega (arith, c.requires.1 c.if-next-starts.true)

pub returns-then-next-starts : goal.returns-then-next-starts
returns-then-next-starts c = rw (lt-ltb _ _ c.if-next-starts.true)

pub returns : goal.returns
returns c = rw (le-ltb _ _ c.if-next-starts.false)
