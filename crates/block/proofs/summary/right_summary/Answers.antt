-- `block::right_summary` meets its contract: each return at the tests that led there. Assumes nothing.
use Rattle.block.specs.Summary.{right_sum}
use Prim.Native.Nat.{◌+◌, ◌-◌}
use native.Mathlib.Omega.{arith}
use borrow.Author.Tests.{lt-ltb, le-ltb, le-leb, lt-leb}
use Rattle.block.proofs.summary.right_summary.Goals as goal

pub returns-then-least-prev : goal.returns-then-least-prev
unfolding right_sum
returns-then-least-prev c = let a = c.args in rw (le-ltb a.prev a.m.least (omega arith))

pub returns-then-greatest-least : goal.returns-then-greatest-least
unfolding right_sum
returns-then-greatest-least c = let a = c.args in rw (lt-ltb a.prev a.m.least (omega arith), lt-leb a.m.least a.m.greatest (omega arith))

pub returns-then-m-eq0 : goal.returns-then-m-eq0
unfolding right_sum
returns-then-m-eq0 c = let a = c.args in rw (lt-ltb a.prev a.m.least (omega arith), le-leb a.m.least a.m.greatest (omega arith), le-ltb 0 a.m.top (omega arith))

pub returns-then-count-eq0 : goal.returns-then-count-eq0
unfolding right_sum
returns-then-count-eq0 c = let a = c.args in rw (lt-ltb a.prev a.m.least (omega arith), le-leb a.m.least a.m.greatest (omega arith), lt-ltb 0 a.m.top (omega arith), le-ltb 0 a.m.count (omega arith))

pub returns-then-count-gt-PER_BLOCK : goal.returns-then-count-gt-PER_BLOCK
unfolding right_sum
returns-then-count-gt-PER_BLOCK c = let a = c.args in rw (lt-ltb a.prev a.m.least (omega arith), le-leb a.m.least a.m.greatest (omega arith), lt-ltb 0 a.m.top (omega arith), lt-ltb 0 a.m.count (omega arith), lt-leb a.m.count 100 (omega arith))

pub returns-then-greatest-least-2 : goal.returns-then-greatest-least-2
unfolding right_sum
returns-then-greatest-least-2 c = let a = c.args in rw (lt-ltb a.prev a.m.least (omega arith), le-leb a.m.least a.m.greatest (omega arith), lt-ltb 0 a.m.top (omega arith), lt-ltb 0 a.m.count (omega arith), le-leb a.m.count 100 (omega arith), lt-leb a.m.count (a.m.greatest - a.m.least + 1) (omega arith))

pub returns-then-count-gt1 : goal.returns-then-count-gt1
unfolding right_sum
returns-then-count-gt1 c = let a = c.args in rw (lt-ltb a.prev a.m.least (omega arith), le-leb a.m.least a.m.greatest (omega arith), lt-ltb 0 a.m.top (omega arith), lt-ltb 0 a.m.count (omega arith), le-leb a.m.count 100 (omega arith), le-leb a.m.count (a.m.greatest - a.m.least + 1) (omega arith), lt-ltb 1 a.m.count c.if-count-gt1.true)

pub returns-else-count-gt1 : goal.returns-else-count-gt1
unfolding right_sum
returns-else-count-gt1 c = let a = c.args in rw (lt-ltb a.prev a.m.least (omega arith), le-leb a.m.least a.m.greatest (omega arith), lt-ltb 0 a.m.top (omega arith), lt-ltb 0 a.m.count (omega arith), le-leb a.m.count 100 (omega arith), le-leb a.m.count (a.m.greatest - a.m.least + 1) (omega arith), le-ltb 1 a.m.count c.if-count-gt1.false)
