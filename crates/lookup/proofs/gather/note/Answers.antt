-- `lookup::gather::note` meets its contract. The invariant: the list is noted for the terms before i. Assumes nothing.
use Prim.Native.Nat.{◌<◌}
use native.Mathlib.Omega.{arith}
use mathlib.Core.Path.{◌≡◌, sym, ◌∙◌}
use lib.ListN.{length, get_or, take}
use lib.Seq.{get_or-take}
use Rattle.lookup.proofs.Gathers.{noted_here, noted_other}
use Rattle.lookup.proofs.gather.note.Goals.{else-term-list, then-term-list}
use Rattle.lookup.proofs.gather.note.Goals as goal

pub loop-i-preserved : goal.loop-i-preserved
loop-i-preserved c =
    let a = c.args in
    let l = c.loop-i in
    let h : l.i < length a.terms.now = omega arith in
    let same : get_or (take a.n a.terms.now) l.i 0 ≡ get_or a.terms.now l.i 0 = get_or-take a.n a.terms.now l.i 0 (omega arith) in
    (elim c.if-term-list.branch [
      | then-term-list w ↦ (
        w.ats-is ∙ rw l.invariant.0 (noted_here a.list.term a.list.at l.i a.terms.now a.ats.now h (sym same ∙ w.if-term-list.true)),
        w.counts-is ∙ rw l.invariant.1 (noted_here a.list.term a.list.count l.i a.terms.now a.counts.now h (sym same ∙ w.if-term-list.true)),
      )
      | else-term-list w ↦ (
        w.ats-is ∙ l.invariant.0 ∙ noted_other a.list.term a.list.at l.i a.terms.now a.ats.now h (λ e. w.if-term-list.false (same ∙ e)),
        w.counts-is ∙ l.invariant.1 ∙ noted_other a.list.term a.list.count l.i a.terms.now a.counts.now h (λ e. w.if-term-list.false (same ∙ e)),
      )
    ])
