-- `change::runs::insert` meets its contract: the posting goes to where the docids above it begin. Assumes nothing.
use Rattle.std.proofs.Common.{rules}
use Rattle.std.proofs.lemmas.List.Sorted.{IsPartitionPoint-from_clause}
use lib.Dec.{ltb}
use lib.ListN.{take}
use lib.Seq.{length-take-le}
use native.Mathlib.Omega.{arith}
use Prim.Native.Nat.{◌≤◌}
use Rattle.change.proofs.Runnings.{below-first, inserted}
use Rattle.change.proofs.runs.insert.Goals as goal

pub returns : goal.returns
returns c =
    let a = c.args in
    let at = c.partition_point-at.result in
    let q = IsPartitionPoint-from_clause (λ y. ltb y a.d) (take a.n a.docs.now) at c.partition_point-at.ensures.partitioned (below-first a.d a.n a.docs.now a.scores.now c.requires) (λ x r f k. search rules) in
    let h : at ≤ a.n = omega (arith, c.partition_point-at.ensures.bound, length-take-le a.n a.docs.now (omega (arith, c.requires.roomy))) in
    rw (c.copy_within.ensures.after, c.copy_within-2.ensures.after) (inserted a.d a.n a.docs.now a.scores.now c.requires a.w at h q)
