-- The cuts: they rise, lie above 1 and up to the limit, and are the edges in that range. Assumes nothing.
use Prim.Native.Nat.{ℕ, zero, suc, ◌+◌, ◌*◌, ◌≤◌, ◌<◌}
use mathlib.Core.Path.{◌≡◌, refl, sym, ◌∙◌}
use mathlib.Core.Bool.{Bool, true, false, ◌||◌, ◌&&◌}
use mathlib.Core.List.{List, [], ◌∷◌}
use native.Mathlib.Omega.{arith}
use lib.Dec.{ltb, leb, eqb}
use lib.ListN.{length, length-append}
use borrow.Author.Tests.{ltb-true, leb-true, eqb-true}
use Rattle.model.specs.Runs.{has, Asc, All}
use Rattle.prune.specs.Cut.{Block, Listing, edges, all_edges, keeps_cut, add_cut, add_cuts, cuts, block_count}
use Rattle.model.proofs.Lists.{split, and-true, or_false, or_swap, or_assoc}
use Rattle.model.proofs.Runs.{asc_add, All_add, has-add, add-length}

pub keeps_low : (lim c : ℕ) → keeps_cut lim c ≡ true → 1 < c
keeps_low lim c k = ltb-true _ _ (and-true (ltb 1 c) (leb c lim) k).0

pub keeps_high : (lim c : ℕ) → keeps_cut lim c ≡ true → c ≤ lim
keeps_high lim c k = leb-true _ _ (and-true (ltb 1 c) (leb c lim) k).1

pub cut_asc : (lim c : ℕ) (cs : List ℕ) → Asc 1 cs → Asc 1 (add_cut lim cs c)
cut_asc lim c cs a = split (keeps_cut lim c) (λ k. rw k (asc_add 1 c cs (keeps_low lim c k) a)) (λ k. rw k a)

pub adds_asc : (lim : ℕ) (cs es : List ℕ) → Asc 1 cs → Asc 1 (add_cuts lim cs es)
adds_asc lim cs [] a = a
adds_asc lim cs (e ∷ es) a = adds_asc lim (add_cut lim cs e) es (cut_asc lim e cs a)

pub cuts_asc : (lim : ℕ) (ls : List Listing) → Asc 1 (cuts lim ls)
cuts_asc lim ls = adds_asc lim [] (all_edges ls) tt

pub adds-most : (lim : ℕ) (cs es : List ℕ) → All (λ c. c ≤ lim) cs → All (λ c. c ≤ lim) (add_cuts lim cs es)
adds-most lim cs [] a = a
adds-most lim cs (e ∷ es) a =
    adds-most lim (add_cut lim cs e) es
    (split (keeps_cut lim e) (λ k. rw k (All_add (λ c. c ≤ lim) e cs (keeps_high lim e k) a)) (λ k. rw k a))

pub cuts-most : (lim : ℕ) (ls : List Listing) → All (λ c. c ≤ lim) (cuts lim ls)
cuts-most lim ls = adds-most lim [] (all_edges ls) tt

-- what the cuts hold: the edges in range
has-cut : (lim d c : ℕ) (cs : List ℕ) → has d (add_cut lim cs c) ≡ ((keeps_cut lim d && eqb d c) || has d cs)
has-cut lim d c cs =
    split (eqb d c)
    (λ e. let q : d ≡ c = eqb-true _ _ e in
    rw q (split (keeps_cut lim c) (λ k. rw (k, has-add c c cs)) (λ k. rw k)))
    (λ e. split (keeps_cut lim c)
    (λ k. rw (k, has-add d c cs, e) (split (keeps_cut lim d) (λ m. rw m) (λ m. rw m)))
    (λ k. rw (k, e) (split (keeps_cut lim d) (λ m. rw m) (λ m. rw m))))

and_or : (k a b c : Bool) → ((k && b) || ((k && a) || c)) ≡ ((k && (a || b)) || c)
and_or true a b c = or_swap b a c ∙ sym (or_assoc a b c)
and_or false a b c = refl

pub has-cuts : (lim d : ℕ) (cs es : List ℕ) → has d (add_cuts lim cs es) ≡ ((keeps_cut lim d && has d es) || has d cs)
has-cuts lim d cs [] = split (keeps_cut lim d) (λ k. rw k) (λ k. rw k)
has-cuts lim d cs (e ∷ es) = has-cuts lim d (add_cut lim cs e) es ∙ rw (has-cut lim d e cs) (and_or (keeps_cut lim d) (eqb d e) (has d es) (has d cs))

pub cut_edge : (lim : ℕ) (ls : List Listing) (d : ℕ) → has d (cuts lim ls) ≡ (keeps_cut lim d && has d (all_edges ls))
cut_edge lim ls d = has-cuts lim d [] (all_edges ls) ∙ or_false (keeps_cut lim d && has d (all_edges ls))

-- how many there are
adds-count : (lim : ℕ) (cs es : List ℕ) → length (add_cuts lim cs es) ≤ length cs + length es
adds-count lim cs [] = omega arith
adds-count lim cs (e ∷ es) =
    let one : length (add_cut lim cs e) ≤ length cs + 1 = split (keeps_cut lim e) (λ k. rw k (add-length e cs)) (λ k. rw k (omega arith)) in
    omega (arith, adds-count lim (add_cut lim cs e) es)

edges-count : (bs : List Block) → length (edges bs) ≡ 2 * length bs
edges-count [] = refl
edges-count (b ∷ bs) = omega (arith, edges-count bs)

all-count : (ls : List Listing) → length (all_edges ls) ≡ 2 * block_count ls
all-count [] = refl
all-count (l ∷ ls) = omega (arith, length-append (edges l.blocks) (all_edges ls), edges-count l.blocks, all-count ls)

pub cuts-count : (lim : ℕ) (ls : List Listing) → length (cuts lim ls) ≤ 2 * block_count ls
cuts-count lim ls = omega (arith, adds-count lim [] (all_edges ls), all-count ls)

pub blocks-most : (n m : ℕ) (ls : List Listing) → length ls ≤ n → All (λ l. length l.blocks ≤ m) ls → block_count ls ≤ n * m
blocks-most n m [] h a = omega arith
blocks-most zero m (l ∷ ls) h a = absurd (omega arith)
blocks-most (suc n) m (l ∷ ls) h a = omega (arith, blocks-most n m ls (omega arith) a.1, a.0)
