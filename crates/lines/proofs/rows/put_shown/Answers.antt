-- `lines::rows::put_shown` meets its contract: three stores, one after the other. Assumes nothing.
use Rattle.model.specs.Post.{postings}
use Rattle.model.proofs.Storing.{stored-append, stored-length}
use Rattle.lines.specs.Text.{Shown, shown}
use Rattle.lines.proofs.Sizes.{text-size}
use native.Mathlib.Omega.{arith}
use lib.ListN.{take}
use Rattle.lines.proofs.rows.put_shown.Goals as goal

pub put_hits-p-requires : goal.put_hits-p-requires
put_hits-p-requires c =
    let a = c.args in
    let whole : Shown = shown (take a.n (postings a.docids.now a.scores.now)) a.firsts.now a.ceilings.now a.marks.now a.opened a.all in
    let q = c.requires in (q.0, q.1, q.2, omega (arith, q.4, text-size whole))

pub put_intervals-q-requires : goal.put_intervals-q-requires
put_intervals-q-requires c =
    let a = c.args in
    let whole : Shown = shown (take a.n (postings a.docids.now a.scores.now)) a.firsts.now a.ceilings.now a.marks.now a.opened a.all in
    let q = c.requires in (q.3, omega (arith, q.4, text-size whole, stored-length c.put_hits-p.ensures, c.put_hits-p.ensures.past))

pub put_blocks-requires : goal.put_blocks-requires
put_blocks-requires c =
    let a = c.args in
    let whole : Shown = shown (take a.n (postings a.docids.now a.scores.now)) a.firsts.now a.ceilings.now a.marks.now a.opened a.all in
    omega (arith, c.requires.4, text-size whole, stored-length c.put_hits-p.ensures, c.put_hits-p.ensures.past, stored-length c.put_intervals-q.ensures, c.put_intervals-q.ensures.past)

pub returns : goal.returns
returns c = stored-append c.put_hits-p.ensures (stored-append c.put_intervals-q.ensures c.put_blocks.ensures)
