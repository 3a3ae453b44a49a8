-- `list::read::count` meets its contract. The invariant: what was counted and what the blocks left say is all (`Pours`). Assumes nothing.
use native.Mathlib.Omega.{arith}
use Rattle.list.proofs.Pours.{count-start, count-done}
use Rattle.list.proofs.read.count.Goals as goal

pub loop-b-init : goal.loop-b-init
loop-b-init c = let a = c.args in count-start a.s.now a.list c.new-reading.result c.requires (omega arith) c.new-reading.ensures

pub returns : goal.returns
returns c =
    let a = c.args in
    let n = c.new-reading in
    let l = c.loop-b in
    count-done a.s.now a.list n.result l.reading l.n n.ensures c.in_default.ensures.0 l.invariant
