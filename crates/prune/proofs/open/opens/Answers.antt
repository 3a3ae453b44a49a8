-- `opens` meets its contract. Assumes nothing.
use borrow.Author.Tests.{lt-ltb}
use Rattle.rank.specs.Rank.{beats}
use Rattle.prune.proofs.open.opens.Goals as goal

pub returns-then-ceiling-gt0 : goal.returns-then-ceiling-gt0
unfolding beats
returns-then-ceiling-gt0 c = rw (lt-ltb 0 c.args.ceiling c.if-ceiling-gt0.true)
