-- `lines::line::put_line` meets its contract: three stores, one after the other. Assumes nothing.
use Rattle.model.proofs.Storing.{stored-append, stored_as, stored-length}
use Rattle.lines.proofs.Lines.{line-parts, line-size}
use native.Mathlib.Omega.{arith}
use Rattle.lines.proofs.line.put_line.Goals as goal

pub put_word-p-requires : goal.put_word-p-requires
put_word-p-requires c = omega (arith, line-size c.args.letter.now c.args.ns.now c.args.end.now)

pub put_numbers-q-requires : goal.put_numbers-q-requires
put_numbers-q-requires c = omega (arith, line-size c.args.letter.now c.args.ns.now c.args.end.now, stored-length c.put_word-p.ensures, c.put_word-p.ensures.past)

pub put_word-requires : goal.put_word-requires
put_word-requires c =
    omega (arith, line-size c.args.letter.now c.args.ns.now c.args.end.now, stored-length c.put_word-p.ensures, c.put_word-p.ensures.past, stored-length c.put_numbers-q.ensures, c.put_numbers-q.ensures.past)

pub returns : goal.returns
returns c =
    let a = c.args in
    stored_as (line-parts a.letter.now a.ns.now a.end.now)
    (stored-append c.put_word-p.ensures (stored-append c.put_numbers-q.ensures c.put_word.ensures))
