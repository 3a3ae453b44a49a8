-- `change::splice::splice` meets its contract: its length, 11 and 9 first, then three parts stored one after the other (`News`). Assumes nothing.
use Prim.Native.Nat.{◌≤◌}
use native.Mathlib.Omega.{arith}
use lib.ListN.{length}
use Rattle.model.specs.Post.{postings}
use Rattle.list.proofs.Faults.{gives-done}
use Rattle.change.specs.Seat.{packed_bytes, spliced}
use Rattle.change.proofs.News.{new-small, splice-length, splice-fits, splice-stored}
use Rattle.change.proofs.splice.splice.Goals as goal

pub overflow_add-total : goal.overflow_add-total
overflow_add-total c =
    let a = c.args in
    let mid = packed_bytes a.strip a.term (postings a.docs.now a.scores.now) in
    omega (arith, c.new_len.ensures a.strip a.term, new-small a.strip a.term a.docs.now a.scores.now, c.requires.0, c.requires.1, c.requires.2)

pub overflow_add-total-2 : goal.overflow_add-total-2
overflow_add-total-2 c =
    let a = c.args in
    let mid = packed_bytes a.strip a.term (postings a.docs.now a.scores.now) in
    omega (arith, c.new_len.ensures a.strip a.term, new-small a.strip a.term a.docs.now a.scores.now, c.requires.0, c.requires.1, c.requires.2)

pub returns : goal.returns
returns c =
    let a = c.args in
    let mid = packed_bytes a.strip a.term (postings a.docs.now a.scores.now) in
    let size = splice-length a.s.now a.at a.next mid c.requires.0 c.requires.1 in
    let n = c.new_len.ensures a.strip a.term in
    let fits : length (spliced a.s.now a.at a.next mid) ≤ length a.out.now = omega (arith, c.if-out-total.false) in
    gives-done (splice-fits a.s.now a.at a.next mid c.requires.0 c.requires.1 (length a.out.now) (omega (arith, c.if-total-gt-MAX_SHELF.false)) fits) fits
    (splice-stored a.s.now a.at a.next mid c.requires.0 c.requires.1 c.copy-a.ensures c.put_new-b.ensures c.copy-c.ensures)
