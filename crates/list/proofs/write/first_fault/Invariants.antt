-- `list::first_fault` meets its contract. The invariant: the postings passed, and the fault of those that are left, make the fault of all. Assumes nothing.
use Rattle.std.specs.Iterator.Adapters.{enumerate_source, enumerate_count, zip_first, zip_second}
use Rattle.std.specs.Slice.Iter.{iter_rest}
use mathlib.Core.Path.{◌≡◌}
use Prim.Native.Nat.{◌+◌}
use lib.ListN.{length, drop}
use Rattle.model.specs.Post.{postings}
use Rattle.list.specs.Write.{fault_at}
use Rattle.list.proofs.write.first_fault.Given as goal

abbrev pub invariant-loop-i : goal.invariant-loop-i
invariant-loop-i l =
    let i = enumerate_count l.i-iterator in
    let ds = iter_rest (zip_first (enumerate_source l.i-iterator)) in
    let ss = iter_rest (zip_second (enumerate_source l.i-iterator)) in
    (i + length ds ≡ length l.docs) × (length ds ≡ length ss) × (ss ≡ drop i l.scores) × (i + fault_at l.p (postings ds ss) ≡ fault_at 0 (postings l.docs l.scores))
