-- From the two runs of a list's docids to its blocks, and from list to list: what a loop over the query's lists holds. Assumes nothing.
use Prim.Native.Nat.{ℕ, suc, ◌+◌, ◌≤◌}
use mathlib.Core.Path.{◌≡◌, refl, sym, ap}
use mathlib.Core.List.{List, [], ◌∷◌, ◌++◌, map, append_assoc, append-nil}
use native.Mathlib.Omega.{arith}
use lib.ListN.{length}
use Rattle.model.specs.Runs.{All}
use Rattle.model.proofs.Lists.{All_image}
use Rattle.prune.specs.Cut.{Block, Listing, edges, all_edges, add_cut, add_cuts, cuts, Rises}
use Rattle.prune.specs.Gather.{Blocks, Up, edges_of}
use Rattle.prune.proofs.Pushes.{cut-grows}
use Rattle.prune.proofs.Gathers.{cuts-append}

abbrev pub leasts : List Block → List ℕ
leasts bs = map (λ (b : Block). b.least) bs

abbrev pub greatests : List Block → List ℕ
greatests bs = map (λ (b : Block). b.greatest) bs

pub edges-of : (bs : List Block) → edges_of (leasts bs) (greatests bs) ≡ edges bs
edges-of [] = refl
edges-of (b ∷ bs) = ap {B = List ℕ} (λ t. b.least ∷ (b.greatest + 1) ∷ t) (edges-of bs)

up_less : (m n : ℕ) (xs : List ℕ) → m ≤ n → Up n xs → Up m xs
up_less m n [] l u = tt
up_less m n (x ∷ xs) l u = (omega (arith, u.0), u.1)

up_of : (n : ℕ) (bs : List Block) → Rises n bs → Up (n + 1) (edges_of (leasts bs) (greatests bs))
up_of n [] r = tt
up_of n (b ∷ bs) r = (omega (arith, r.0), (omega (arith, r.1), up_of b.greatest bs r.2))

-- blocks that rise, up to the limit, are what the gathering asks
pub blocks-of : (lim : ℕ) (bs : List Block) → Rises 0 bs → All (λ b. b.greatest ≤ lim) bs → Blocks lim (leasts bs) (greatests bs)
blocks-of lim bs r a = record { even = same bs; most = All_image (λ (b : Block). b.greatest) (λ g. g ≤ lim) bs a; up = up_less 0 1 (edges_of (leasts bs) (greatests bs)) (omega arith) (up_of 0 bs r) }
  where
    same : (bs : List Block) → length (leasts bs) ≡ length (greatests bs)
    same [] = refl
    same (b ∷ bs) = ap suc (same bs)

edges-append : (ls ms : List Listing) → all_edges (ls ++ ms) ≡ all_edges ls ++ all_edges ms
edges-append [] ms = refl
edges-append (l ∷ ls) ms = rw (edges-append ls ms) (sym (append_assoc (edges l.blocks) (all_edges ls) (all_edges ms)))

-- one list more puts its edges in
pub cuts_snoc : (lim : ℕ) (ls : List Listing) (l : Listing) → cuts lim (ls ++ (l ∷ [])) ≡ add_cuts lim (cuts lim ls) (edges l.blocks)
cuts_snoc lim ls l = rw (edges-append ls (l ∷ []), append-nil (edges l.blocks)) (cuts-append lim [] (all_edges ls) (edges l.blocks))

pub adds_grow : (lim : ℕ) (cs es : List ℕ) → length cs ≤ length (add_cuts lim cs es)
adds_grow lim cs [] = omega arith
adds_grow lim cs (e ∷ es) = omega (arith, adds_grow lim (add_cut lim cs e) es, cut-grows lim e cs)
