-- The state of the loop over lists. Assumes nothing.
use Prim.Native.Nat.{ℕ, ◌+◌, ◌-◌, ◌*◌, ◌≤◌, ◌<◌}
use mathlib.Core.Path.{◌≡◌, refl, ap, ◌∙◌}
use mathlib.Core.List.{List, [], ◌∷◌}
use native.Mathlib.Omega.{arith}
use lib.ListN.{length, get_or, take, drop, length-drop}
use lib.Seq.{length-take-le}
use Rattle.model.specs.Runs.{Asc, Holds}
use Rattle.prune.specs.Cut.{Listing, all_edges, add_cuts, cuts}
use Rattle.prune.proofs.Cuts.{adds_asc}
use Rattle.prune.specs.Gather.{edges_of, part, flat_edges, Fine}
use Rattle.prune.proofs.Merges.{drop_at}
use Rattle.model.proofs.Storing.{holds-take, holds_trans}
use Rattle.prune.proofs.Gathers.{cuts-append, adds-few, edges_few}
use Rattle.prune.proofs.Listings.{leasts, greatests, edges-of, adds_grow}

pub record Walking (lim : ℕ) (ends los his old run : List ℕ) (n f t : ℕ) : Type 0 where
  pub t_in : t ≤ length ends
  pub same : length run ≡ length old
  pub few : n ≤ 2 * f
  pub f_in : f ≤ length los
  pub fine : Fine lim f (drop t ends) los his
  pub rest : add_cuts lim [] (flat_edges 0 ends los his) ≡ add_cuts lim (take n run) (flat_edges f (drop t ends) los his)
  pub asc : Asc 1 (take n run)
  pub held : Holds old (take n run) run n

module _ (lim : ℕ) (ends los his old run : List ℕ) (n f t : ℕ) (s : Walking lim ends los his old run n f t) (l : t < length ends) where
  -- the next list
  pub next_fine : Fine lim f (get_or ends t 0 ∷ drop (t + 1) ends) los his
  next_fine = rw (drop_at ends t l) at s.fine

  pub part_length : (xs : List ℕ) → f ≤ get_or ends t 0 → get_or ends t 0 ≤ length xs → length (part f (get_or ends t 0) xs) ≡ get_or ends t 0 - f
  part_length xs a b = length-take-le (get_or ends t 0 - f) (drop f xs) (simp length-drop (omega arith))

  pub walking_more : (new : List ℕ) (r : ℕ) → length new ≡ length run → 2 * length los ≤ length old
      → Holds run (add_cuts lim (take n run) (edges_of (part f (get_or ends t 0) los) (part f (get_or ends t 0) his))) new r
      → Walking lim ends los his old new r (get_or ends t 0) (t + 1)
  walking_more new r w room h = record {
    t_in = omega arith;
    same = w ∙ s.same;
    few = most;
    f_in = next_fine.1;
    fine = next_fine.5;
    rest = s.rest ∙ rw (drop_at ends t l, taken) (cuts-append lim (take n run) es (flat_edges (get_or ends t 0) (drop (t + 1) ends) los his));
    asc = rw taken (adds_asc lim (take n run) es s.asc);
    held = rw taken (holds_trans old (take n run) run (add_cuts lim (take n run) es) new n r s.held h grown);
  }
    where
      e : ℕ
      e = get_or ends t 0

      es : List ℕ
      es = edges_of (part f e los) (part f e his)

      taken : take r new ≡ add_cuts lim (take n run) es
      taken = holds-take run (add_cuts lim (take n run) es) new r h

      size : length (take n run) ≡ n
      size = length-take-le n run (omega (arith, s.same, s.few, s.f_in))

      grown : n ≤ r
      grown = omega (arith, h.count, adds_grow lim (take n run) es, size)

      most : r ≤ 2 * e
      most = omega (arith, h.count, adds-few lim (take n run) es, edges_few (part f e los) (part f e his), part_length los next_fine.0 next_fine.1, next_fine.0, size, s.few)

-- The parts spell the query's lists: then what is gathered is `cuts`
abbrev pub Spells : ℕ → List ℕ → List ℕ → List ℕ → List Listing → Type 0
Spells f [] los his [] = Unit {0}
Spells f [] los his (l ∷ ls) = ⊥
Spells f (e ∷ es) los his [] = ⊥
Spells f (e ∷ es) los his (l ∷ ls) = (part f e los ≡ leasts l.blocks) × (part f e his ≡ greatests l.blocks) × Spells e es los his ls

flat-all : (f : ℕ) (ends los his : List ℕ) (ls : List Listing) → Spells f ends los his ls → flat_edges f ends los his ≡ all_edges ls
flat-all f [] los his [] s = refl
flat-all f [] los his (l ∷ ls) s = absurd s
flat-all f (e ∷ es) los his [] s = absurd s
flat-all f (e ∷ es) los his (l ∷ ls) s = rw (s.0, s.1, edges-of l.blocks, flat-all e es los his ls s.2)

pub flat-cuts : (lim : ℕ) (ends los his : List ℕ) (ls : List Listing) → Spells 0 ends los his ls → add_cuts lim [] (flat_edges 0 ends los his) ≡ cuts lim ls
flat-cuts lim ends los his ls s = ap (add_cuts lim []) (flat-all 0 ends los his ls s)
