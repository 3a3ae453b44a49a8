use native.Mathlib.Omega.{arith}
use Prim.Native.Nat.{◌<◌}
use Rattle.model.specs.Runs.{All}
use lib.ListN.{take}
use Rattle.prune.proofs.Pushes.{push_same, push_end, below_last, none_before}
use Rattle.prune.proofs.cut.push_cut.Goals.{else-n-gt0-via-then-n-gt0+else-out-n, else-n-gt0-via-else-n-gt0}
use Rattle.prune.proofs.cut.push_cut.Goals as goal

pub returns-then-out-n : goal.returns-then-out-n
returns-then-out-n c =
    let a = c.args in
    let q = c.requires in
    push_same a.lim a.c a.n a.out.now q.0 (omega arith) (omega arith) (omega arith) q.1 c.if-out-n.true

pub returns : goal.returns
returns c =
    let a = c.args in
    let q = c.requires in
    let all : All (λ y. y < a.c) (take a.n a.out.now) =
    (elim c.else-n-gt0.branch [ else-n-gt0-via-then-n-gt0+else-out-n w ↦ below_last a.n a.c a.out.now q.0 w.if-n-gt0.true q.1 q.2 w.if-out-n.false | else-n-gt0-via-else-n-gt0 w ↦ none_before (λ y. y < a.c) a.n a.out.now w.if-n-gt0.false ]) in
    push_end a.lim a.c a.n a.out.now q.0 (omega arith) (omega arith) all
