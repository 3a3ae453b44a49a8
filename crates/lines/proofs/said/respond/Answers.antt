-- `lines::said::respond` asks for an answer only where there is room for every output. Assumes nothing.
use Rattle.std.proofs.Common.{[]}
use Rattle.lines.proofs.Speaking.{answer-room}
use Rattle.lines.proofs.said.respond.Goals as goal

pub answer-requires : goal.answer-requires
answer-requires g c =
    let a = c.args in
    let b = c.begin in
    c.requires _ _ (answer-room a.name.now [] a.out.now a.err.now b.new.err a.input b.result b.ensures c.in-Ok.bytes c.in-Ok.is)
