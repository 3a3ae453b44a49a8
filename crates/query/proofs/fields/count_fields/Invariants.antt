-- `query::fields::count_fields` meets its contract. The invariant: the count of all goes on from the fields that were passed. Assumes nothing.
use Prim.Native.Nat.{ℕ}
use Rattle.query.proofs.Parts.{Counting}
use Rattle.query.proofs.fields.count_fields.Given as goal

abbrev pub invariant-loop-at : goal.invariant-loop-at
invariant-loop-at l = (n : ℕ) × Counting l.q n l.at
