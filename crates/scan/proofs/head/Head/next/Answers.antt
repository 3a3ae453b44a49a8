-- `Head::next` meets its contract. Assumes nothing.
use borrow.Author.Tests.{lt-ltb, le-ltb}
use Rattle.scan.specs.Heads.{next_head}
use Rattle.scan.proofs.head.Head.next.Goals as goal

pub returns-then-self : goal.returns-then-self
unfolding next_head
returns-then-self c = rw (lt-ltb _ _ c.if-self.true)

pub returns : goal.returns
unfolding next_head
returns c = rw (le-ltb _ _ c.if-self.false)
