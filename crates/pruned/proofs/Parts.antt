-- Where the blocks of each list stand among the blocks of all lists, which stand one after another. Assumes nothing.
use Prim.Native.Nat.{ℕ, zero, suc, ◌+◌, ◌*◌, ◌≤◌, ◌<◌}
use mathlib.Core.Path.{◌≡◌, refl, sym, ap, ◌∙◌}
use mathlib.Core.List.{List, [], ◌∷◌, map}
use native.Mathlib.Omega.{arith}
use lib.ListN.{length, get_or, length-map, length-append, get_or-append}
use lib.Seq.{get_or-append-add}
use Rattle.model.specs.Limits.{per_list}
use Rattle.model.specs.Runs.{All}
use Rattle.model.proofs.Lists.{All_append, get_d_map}
use Rattle.shelf.specs.Walk.{Block}
use Rattle.lookup.specs.Table.{flat, ends_from}
use Rattle.prune.specs.Cut.{Listing, block_count}
use Rattle.opening.specs.Table.{numbered}
use Rattle.opening.proofs.Numbers.{numbered_is}

-- what stands at a number
pub numbered-at : {A : Type 0} (z : A) (at : ℕ → A) (n f t : ℕ) → t < n → get_or (numbered at n f) t z ≡ at (f + t)
numbered-at z at zero f t l = absurd (omega arith)
numbered-at z at (suc n) f zero l = let e : f + 0 ≡ f = omega arith in rw e
numbered-at z at (suc n) f (suc t) l = let e : suc f + t ≡ f + suc t = omega arith in rw e at (numbered-at z at n (suc f) t (omega arith))

-- what holds of each block of each list
pub flat-all : (P : Block → Type 0) (L : ℕ → List Block) (n f : ℕ) → ((t : ℕ) → t < f + n → All P (L t)) → All P (flat (numbered L n f))
flat-all P L zero f h = tt
flat-all P L (suc n) f h = All_append P (L f) (flat (numbered L n (suc f))) (h f (omega arith)) (flat-all P L n (suc f) (λ t l. h t (omega arith)))

-- how many blocks there are
pub blocks_counted : (L : ℕ → List Block) (M : ℕ → Listing) (n f : ℕ) → ((t : ℕ) → length (M t).blocks ≡ length (L t)) → length (flat (numbered L n f)) ≡ block_count (numbered M n f)
blocks_counted L M zero f h = refl
blocks_counted L M (suc n) f h = omega (arith, length-append (L f) (flat (numbered L n (suc f))), h f, blocks_counted L M n (suc f) h)

pub flat-few : (L : ℕ → List Block) (n f : ℕ) → ((t : ℕ) → t < f + n → length (L t) ≤ per_list) → length (flat (numbered L n f)) ≤ per_list * n
flat-few L zero f h = omega arith
flat-few L (suc n) f h = omega (arith, length-append (L f) (flat (numbered L n (suc f))), h f (omega arith), flat-few L n (suc f) (λ t l. h t (omega arith)))

-- ---- the lists from the place k on: list t begins where the one before it ends

-- and ends past its blocks
pub part-size : (k : ℕ) (ls : List (List Block)) (t : ℕ) → t < length ls → get_or (ends_from k ls) t 0 ≡ get_or (k ∷ ends_from k ls) t 0 + length (get_or ls t [])
part-size k [] t l = absurd (omega arith)
part-size k (bs ∷ ls) zero l = refl
part-size k (bs ∷ ls) (suc t) l = part-size (k + length bs) ls t (omega arith)

pub part-upto : (k : ℕ) (ls : List (List Block)) (t : ℕ) → t < length ls → get_or (ends_from k ls) t 0 ≤ k + length (flat ls)
part-upto k [] t l = absurd (omega arith)
part-upto k (bs ∷ ls) zero l = omega (arith, length-append bs (flat ls))
part-upto k (bs ∷ ls) (suc t) l = omega (arith, length-append bs (flat ls), part-upto (k + length bs) ls t (omega arith))

-- a run that holds something of each block holds that of the blocks of list t in its part
module _ {A : Type 0} (g : Block → A) (z : Block) (at : ℕ → A) where
  one-part : (k : ℕ) (bs : List Block) → ((i : ℕ) → i < length bs → at (k + i) ≡ g (get_or bs i z)) → numbered at (length bs) k ≡ map g bs
  one-part k bs h =
      let n : length (map g bs) ≡ length bs = length-map bs g in
      sym (rw n at (numbered_is (g z) at (map g bs) k (λ i l. get_d_map g z bs i ∙ sym (h i (omega arith)))))

  pub part-blocks : (k : ℕ) (ls : List (List Block)) → ((i : ℕ) → i < length (flat ls) → at (k + i) ≡ g (get_or (flat ls) i z)) → (t : ℕ) → t < length ls
      → numbered at (length (get_or ls t [])) (get_or (k ∷ ends_from k ls) t 0) ≡ map g (get_or ls t [])
  part-blocks k [] h t l = absurd (omega arith)
  part-blocks k (bs ∷ ls) h zero l = one-part k bs (λ i b. h i (omega (arith, length-append bs (flat ls))) ∙ ap g (get_or-append bs (flat ls) z i b))
  part-blocks k (bs ∷ ls) h (suc t) l =
      part-blocks (k + length bs) ls
      (λ i b.
      let e : k + (length bs + i) ≡ k + length bs + i = omega arith in
      (rw e at (h (length bs + i) (omega (arith, length-append bs (flat ls))))) ∙ ap g (get_or-append-add bs (flat ls) i z))
      t (omega arith)
