-- `lookup::gather::find_terms` meets its contract. The invariant: the lists passed, and what is noted of them. Assumes nothing.
use borrow.Author.Rules.{rules}
use Rattle.std.proofs.lemmas.Result.{err_from_is_err_and}
use Rattle.shelf.proofs.Steps.{turn}
use Rattle.lookup.proofs.Gathers.{noting_start, noting_turn, noting_end, noting_fault}
use Rattle.lookup.proofs.gather.find_terms.Goals as goal

pub loop-list-init : goal.loop-list-init
loop-list-init c =
    let a = c.args in
    noting_start a.s.now a.terms a.n c.new-walk.result c.new-walk.ensures (search rules) (search rules)

pub loop-list-smaller : goal.loop-list-smaller
loop-list-smaller c = (turn c.args.s.now c.loop-list.walk c.in-Some.list c.next.new.self (rw c.in-Some.is at c.in_ok-list.ensures)).fewer

pub loop-list-preserved : goal.loop-list-preserved
loop-list-preserved c =
    let a = c.args in
    let l = c.loop-list in
    let t = turn a.s.now l.walk c.in-Some.list c.next.new.self (rw c.in-Some.is at c.in_ok-list.ensures) in
    noting_turn a.s.now a.terms a.n l.ats l.counts c.note.new.ats c.note.new.counts l.walk c.next.new.self c.in-Some.list t c.note.ensures l.invariant

pub returns-in_err-list : goal.returns-in_err-list
returns-in_err-list c =
    let a = c.args in
    let l = c.loop-list in
    let p = err_from_is_err_and c.from_residual.result c.from_residual.ensures.1 in
    rw (p.1, p.2) (noting_fault a.s.now a.terms a.n l.ats l.counts l.walk l.invariant c.in_err-list.field-0.0 c.in_err-list.ensures.0)

pub returns : goal.returns
returns c =
    let a = c.args in
    let l = c.loop-list in
    noting_end a.s.now a.terms a.n l.ats l.counts l.walk l.invariant (rw c.in_default.is at c.in_ok-list.ensures).0
