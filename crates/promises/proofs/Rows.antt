-- Demand 1, the rows that are lent for hits: "A refusal changes no output", and hits stand in front of the rows as they were. Assumes nothing.
use Prim.Native.Nat.{ℕ, ◌≤◌}
use native.Mathlib.Omega.{arith}
use mathlib.Core.Path.{◌≡◌, refl}
use mathlib.Core.List.{List}
use lib.ListN.{length, drop, length-append, length-drop, length-map}
use lib.Seq.{drop_at}
use Rattle.model.specs.Outcome.{Outcome, refused, done}
use Rattle.rank.specs.Rank.{Hit}
use Rattle.prune.proofs.Rooms.{Within}
use Rattle.exhaustive.specs.Exhaustive.{rank_all}
use Rattle.exhaustive.proofs.Alls.{rank-within}
use Rattle.pruned.specs.Pruned.{front, searched}
use Rattle.pruned.proofs.Searches.{searched-within}
use Rattle.promises.specs.Rows.{Lent, rows, runs, rows_in, left, hits_then, Filled, Past}

refusal-leaves : (o : Outcome (List Hit)) (r : Lent) (n at : ℕ) → o ≡ refused n at → left o r ≡ r
refusal-leaves o (rows rs) n at e = rw e
refusal-leaves o (runs ds ss) n at e = rw e

hits_in_front : (hs : List Hit) (r : Lent) → left (done hs) r ≡ hits_then hs r
hits_in_front hs (rows rs) = refl
hits_in_front hs (runs ds ss) = rw (length-map hs (λ (h : Hit). h.doc), length-map hs (λ (h : Hit). h.score))

filled : (o : Outcome (List Hit)) (r : Lent) (hs : List Hit) → o ≡ done hs → Within length (rows_in r) o → Filled hs r (left o r)
filled o r hs e w = record { fits = rw e at w; holds = rw e (hits_in_front hs r) }

module _ (q s : List ℕ) (r : Lent) where
  pub rank-leaves : (n at : ℕ) → rank_all q s (rows_in r) ≡ refused n at → left (rank_all q s (rows_in r)) r ≡ r
  rank-leaves n at e = refusal-leaves (rank_all q s (rows_in r)) r n at e

  pub rank-fills : (hs : List Hit) → rank_all q s (rows_in r) ≡ done hs → Filled hs r (left (rank_all q s (rows_in r)) r)
  rank-fills hs e = filled (rank_all q s (rows_in r)) r hs e (rank-within q s (rows_in r))

  module _ (fs cs ms : List ℕ) where
    pub search-leaves : (n at : ℕ) → (searched q s (rows_in r) fs cs ms).outcome ≡ refused n at → left (searched q s (rows_in r) fs cs ms).outcome r ≡ r
    search-leaves n at e = refusal-leaves (searched q s (rows_in r) fs cs ms).outcome r n at e

    pub search-fills : (hs : List Hit) → (searched q s (rows_in r) fs cs ms).outcome ≡ done hs → Filled hs r (left (searched q s (rows_in r) fs cs ms).outcome r)
    search-fills hs e = filled (searched q s (rows_in r) fs cs ms).outcome r hs e (searched-within q s (rows_in r) fs cs ms)

-- a run of the book with its first rows filled
pub front-past : (n : ℕ) (row old : List ℕ) → length row ≡ n → n ≤ length old → Past n old (front row old)
front-past n row old e l = record {
  long = omega (arith, length-append row (drop (length row) old), length-drop (length row) old);
  past = rw e (drop_at row (drop n old) n e);
}
