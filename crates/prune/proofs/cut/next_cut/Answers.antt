use Prim.Native.Nat.{◌<◌, ◌≤◌}
use mathlib.Core.Path.{sym, ◌∙◌}
use native.Mathlib.Omega.{arith}
use lib.ListN.{length, get_or}
use borrow.Author.Tests.{ltb-true, ltb-false}
use Rattle.prune.proofs.Merges.{step-first, step_second, step_both, first-left, second_left}
use Rattle.prune.proofs.cut.next_cut.Goals.{then-b-j-via-then-b-j, then-b-j-via-else-b-j+then-a-i, then-i-a, else-i-a, then-a-i-2-via-then-a-i-2, then-a-i-2-via-else-a-i-2+then-b-j-2}
use Rattle.prune.proofs.cut.next_cut.Goals as goal

pub returns-then-b-j : goal.returns-then-b-j
returns-then-b-j c =
    elim c.then-b-j.branch [
      | then-b-j-via-then-b-j w ↦ first-left _ _ _ _ c.requires.3 (omega arith) (omega arith) (omega arith)
      | then-b-j-via-else-b-j+then-a-i w ↦
          (let less : (c.args.i < length c.args.a.now) × (get_or c.args.a.now c.args.i 0 < get_or c.args.b.now c.args.j 0) = (elim w.if-i-a.branch [ then-i-a v ↦ (v.if-i-a.true, ltb-true _ _ (sym v.value-is ∙ w.if-a-i.true)) | else-i-a v ↦ absurd (omega (arith, v.if-i-a.false, ltb-true _ _ (sym v.value-is ∙ w.if-a-i.true))) ]) in
          step-first _ _ _ _ c.requires.3 less.0 w.if-b-j.false less.1)
    ]

pub returns-then-a-i-2 : goal.returns-then-a-i-2
returns-then-a-i-2 c =
    elim c.then-a-i-2.branch [
      | then-a-i-2-via-then-a-i-2 w ↦ second_left _ _ _ _ c.requires.3 (omega arith) (omega arith) (omega arith)
      | then-a-i-2-via-else-a-i-2+then-b-j-2 w ↦ step_second _ _ _ _ c.requires.3 (omega arith) (omega arith) (omega arith)
    ]

pub returns : goal.returns
returns c =
    let least : get_or c.args.b.now c.args.j 0 ≤ get_or c.args.a.now c.args.i 0 = (elim c.if-i-a.branch [ then-i-a v ↦ ltb-false _ _ (sym v.value-is ∙ c.if-a-i.false) | else-i-a v ↦ absurd (omega arith) ]) in
    step_both _ _ _ _ c.requires.3 (omega arith) (omega arith) (omega arith)
