-- `Head::skipped` meets its contract: past each posting below `first`, what is left from `first` on is the same. Assumes nothing.
use mathlib.Core.Path.{sym, ◌∙◌}
use native.Mathlib.Omega.{arith}
use Rattle.scan.proofs.Terms.{next-stays, next-own, skip_turn, skip_less, skip_stop, head-turn, head-stop}
use Rattle.scan.proofs.head.Head.skipped.Goals as goal

pub loop-h-smaller : goal.loop-h-smaller
loop-h-smaller c =
    rw c.next-h.ensures (skip_less c.args.docs.now c.args.scores.now c.args.first c.loop-h.h c.loop-h.invariant.0 (omega (arith, c.loop-h-test.true, c.requires.1)))

pub loop-h-preserved : goal.loop-h-preserved
loop-h-preserved c =
    let ds = c.args.docs.now in
    let ss = c.args.scores.now in
    rw c.next-h.ensures (next-stays ds ss c.loop-h.h c.loop-h.invariant.0, skip_turn ds ss c.args.first c.loop-h.h c.loop-h.invariant.0 c.loop-h-test.true c.requires.1 ∙ c.loop-h.invariant.1, λ t o. next-own ds ss t c.loop-h.h (c.loop-h.invariant.2 t o), head-turn ds ss c.args.first c.loop-h.h c.loop-h.invariant.0 c.loop-h-test.true c.requires.1 ∙ c.loop-h.invariant.3)

pub returns : goal.returns
returns c =
    record { moved = sym (head-stop c.args.docs.now c.args.scores.now c.args.first c.loop-h.h c.loop-h-test.false) ∙ c.loop-h.invariant.3; inside = c.loop-h.invariant.0; same = skip_stop c.args.docs.now c.args.scores.now c.args.first c.loop-h.h c.loop-h-test.false ∙ c.loop-h.invariant.1; parts = c.loop-h.invariant.2 }
