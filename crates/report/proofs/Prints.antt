-- What is printed of a search that is done is small. Assumes nothing.
use Prim.Native.Nat.{ℕ, suc, ◌^◌, ◌<◌}
use native.Mathlib.Omega.{arith}
use mathlib.Core.List.{List, [], ◌∷◌}
use lib.ListN.{get_or, length-take}
use Rattle.model.specs.Post.{postings}
use Rattle.model.specs.Runs.{All}
use Rattle.model.proofs.Lists.{All_take}
use Rattle.lines.specs.Book.{Small}
use Rattle.report.specs.Report.{rows_of, Printed}
use Rattle.pruned.specs.declared.search.Pruned.{Pruned}

all-by : (xs : List ℕ) → ((i : ℕ) → get_or xs i 0 < 2 ^ 32) → All (λ n. n < 2 ^ 32) xs
all-by [] f = tt
all-by (x ∷ xs) f = (f 0, all-by xs (λ i. f (suc i)))

-- what is printed is small: the hits by the keeper, the book's rows by the runs that they stand in
pub small_of : (r : Pruned) (fs cs ms : List ℕ) → Printed r fs cs ms → ((i : ℕ) → get_or fs i 0 < 2 ^ 32) → ((i : ℕ) → get_or cs i 0 < 2 ^ 32) → Small (rows_of r fs cs ms)
small_of r fs cs ms p f c = record {
  few = omega (arith, p.kept, length-take r.kept.n (postings r.kept.docids r.kept.scores));
  rows = omega (arith, p.rows, length-take r.intervals fs);
  first = All_take (λ n. n < 2 ^ 32) r.intervals fs (all-by fs f);
  ceiling = All_take (λ n. n < 2 ^ 32) r.intervals cs (all-by cs c);
}
