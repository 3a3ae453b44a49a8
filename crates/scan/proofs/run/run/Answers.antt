-- `run` meets its contract. The outer invariant: the kept rows, with the run over what the heads still have, give what they gave at the start.
-- The measure is the number of postings left. The inner loops are the two passes over the heads. Assumes nothing.
use Prim.Native.Nat.{◌<◌}
use mathlib.Core.Path.{sym, ap, ◌∙◌}
use mathlib.Core.List.{List}
use native.Mathlib.Omega.{arith}
use native.Mathlib.Nat.{min-eq_right}
use lib.ListN.{length, get_or, set, take}
use Rattle.std.proofs.lemmas.List.{set-get_or}
use Rattle.model.proofs.Lists.{map-here, All_take}
use Rattle.rank.specs.Run.{none}
use Rattle.rank.proofs.Keepings.{kept_on_lem}
use Rattle.scan.specs.Heads.{blank, InBuffers, step_if}
use Rattle.scan.specs.declared.head.Head.{Head}
use Rattle.scan.proofs.Heads.{least-top, least-done, sum-done, step-done, product, idle-step, All_at, step-turn, step_stay, sum-here, sum_stay}
use Rattle.scan.proofs.Turns.{running_turn, fewer-left, run-ended}
use Rattle.scan.proofs.run.run.Goals.{else-h-d, then-h-d}
use Rattle.scan.proofs.run.run.Goals as goal

pub loop-h-2-init : goal.loop-h-2-init
loop-h-2-init c = (omega arith, sym (min-eq_right (least-top (take c.in_use-m.result c.loop-h.hs))))

pub returns-then-last-d : goal.returns-then-last-d
returns-then-last-d c =
    let w = c.loop-h.invariant.0 in
    let small = least-done c.loop-h.hs c.in_use-m.result c.loop-h-2.h-index c.loop-h.invariant.1 (omega arith) c.loop-h-2.d c.loop-h-2.invariant.0 c.loop-h-2.invariant.1 in
    let e = run-ended c.args.last c.loop-h-2.d c.args.docs.now c.args.scores.now c.loop-h.hs c.if-last-d.true small in
    let rows = kept_on_lem c.args.kept c.loop-h.best c.loop-h.sums c.loop-h.n (w.best-long ∙ sym w.sums-long) (omega (arith, w.best-long, w.room, c.requires.most)) w.best-past w.sums-past in
    record { kept = rw e.0 at w.hits; rows = rows; room = w.room; order = w.order; inside = w.inside; parts = w.parts; moved = sym e.2 ∙ w.moved; left = sym e.1 ∙ w.left }

pub next-requires : goal.next-requires
next-requires c =
    let ds = c.args.docs.now in
    let ss = c.args.scores.now in
    let front = take c.in_use-m.result c.loop-h.hs in
    let here : c.loop-h-3.h-index < length front = omega arith in
    rw (c.loop-h-3.invariant.1, map-here blank (step_if ds ss c.loop-h-2.d) front c.loop-h-3.h-index here)
    (All_at (InBuffers ds ss) front c.loop-h-3.h-index here (All_take (InBuffers ds ss) c.in_use-m.result c.loop-h.hs c.loop-h.invariant.0.inside))

pub loop-h-3-preserved : goal.loop-h-3-preserved
loop-h-3-preserved c =
    let ds = c.args.docs.now in
    let ss = c.args.scores.now in
    let d = c.loop-h-2.d in
    let i = c.loop-h-3.h-index in
    let front = take c.in_use-m.result c.loop-h.hs in
    let l : i < length front = omega arith in
    let inv = c.loop-h-3.invariant in
    elim c.if-h-d.branch [
      | then-h-d w ↦ (
        omega (arith, w.s-is, product (get_or c.loop-h-3.h-items i blank).weight (get_or c.loop-h-3.h-items i blank).score (omega arith) (omega arith)),
        w.h-items-is ∙ ap {B = List Head} (λ r. set c.loop-h-3.h-items i r) w.next.ensures ∙ step-turn ds ss d front c.loop-h-3.h-items i l inv.1 w.if-h-d.true,
        sum-here ds ss d front c.loop-h-3.h-items i l inv.1 c.loop-h-3.s c.if-h-d.s inv.2 w.if-h-d.true w.s-is,
      )
      | else-h-d w ↦ (
        omega (arith, w.s-is),
        w.h-items-is ∙ set-get_or c.loop-h-3.h-items i blank ∙ step_stay ds ss d front c.loop-h-3.h-items i l inv.1 w.if-h-d.false,
        rw w.s-is (sum_stay ds ss d front c.loop-h-3.h-items i l inv.1 c.loop-h-3.s inv.2 w.if-h-d.false),
      )
    ]

pub loop-h-smaller : goal.loop-h-smaller
loop-h-smaller c =
    let ds = c.args.docs.now in
    let ss = c.args.scores.now in
    let d = c.loop-h-2.d in
    let hs = c.loop-h.hs in
    let under : d < none = omega (arith, c.requires.below) in
    let small = least-done hs c.in_use-m.result c.loop-h-2.h-index c.loop-h.invariant.1 (omega arith) d c.loop-h-2.invariant.0 c.loop-h-2.invariant.1 in
    let moved = step-done hs c.in_use-m.result c.loop-h-3.h-index c.loop-h.invariant.1 (omega arith) ds ss d c.loop-h-3.h-items under c.loop-h-3.invariant.1 in
    rw moved (fewer-left c.args.last d ds ss hs c.requires.below c.if-last-d.false small c.loop-h.invariant.0.inside)

pub loop-h-preserved : goal.loop-h-preserved
loop-h-preserved c =
    let ds = c.args.docs.now in
    let ss = c.args.scores.now in
    let d = c.loop-h-2.d in
    let hs = c.loop-h.hs in
    let under : d < none = omega (arith, c.requires.below) in
    let small = least-done hs c.in_use-m.result c.loop-h-2.h-index c.loop-h.invariant.1 (omega arith) d c.loop-h-2.invariant.0 c.loop-h-2.invariant.1 in
    let moved = step-done hs c.in_use-m.result c.loop-h-3.h-index c.loop-h.invariant.1 (omega arith) ds ss d c.loop-h-3.h-items under c.loop-h-3.invariant.1 in
    let sum = sum-done hs c.in_use-m.result c.loop-h-3.h-index c.loop-h.invariant.1 (omega arith) d c.loop-h-3.s under c.loop-h-3.invariant.2 in
    rw moved (running_turn ds ss _ _ _ _ hs _ _ _ d c.loop-h-3.s _ _ _ c.loop-h.invariant.0 c.requires.below c.if-last-d.false small sum c.offer_in-n.ensures, idle-step ds ss d hs c.in_use-m.result under c.loop-h.invariant.1)
