-- `lookup::find::has_block` meets its contract: each return is a law of `Shows` at the tests that led there. Assumes nothing.
use Rattle.lookup.proofs.Shows.{has-not, has_short, has_room}
use Rattle.lookup.proofs.find.has_block.Goals as goal

pub returns-then-count-j : goal.returns-then-count-j
returns-then-count-j c = let a = c.args in has-not a.s.now a.list a.j c.if-count-j.true

pub returns-then-s-room : goal.returns-then-s-room
returns-then-s-room c =
    let a = c.args in has_short a.s.now a.list a.j c.if-count-j.false c.if-s-room.true

pub returns : goal.returns
returns c =
    let a = c.args in has_room a.s.now a.list a.j c.if-count-j.false c.if-s-room.false
