-- The blocks of a list that was walked, as they stand on the shelf: each may be loaded, and they rise. Assumes nothing.
use Prim.Native.Nat.{ℕ, zero, suc, ◌+◌, ◌≤◌}
use mathlib.Core.Path.{◌≡◌, refl}
use mathlib.Core.Bool.{Bool}
use mathlib.Core.List.{List, [], ◌∷◌, map}
use native.Mathlib.Omega.{arith}
use native.Mathlib.Numerals.{sub-one}
use lib.Dec.{eqb}
use lib.ListN.{length, drop, length-drop}
use lib.Seq.{drop-drop}
use borrow.Author.Tests.{eqb-true}
use Rattle.model.specs.Limits.{max_docid}
use Rattle.model.specs.Outcome.{done}
use Rattle.model.specs.Runs.{All, Bytes}
use Rattle.model.proofs.Lists.{split, All_both}
use Rattle.wire.specs.Field.{field_len, field_value}
use Rattle.wire.proofs.Fields.{whole-size}
use Rattle.block.specs.Summary.{sum_of}
use Rattle.block.specs.Body.{is_strip, tag_of}
use Rattle.shelf.specs.Walk.{Block, bodies_of, blocks_of, blocks_at}
use Rattle.shelf.specs.Blocks.{blocks_left, Rests}
use Rattle.shelf.specs.declared.blocks.Reading.{Reading}
use Rattle.shelf.proofs.Walks.{bodies-step, bodies-whole}
use Rattle.prune.specs.Cut.{Rises}
use Rattle.exhaustive.specs.Lists.{block_of}
use Rattle.exhaustive.specs.Merge.{Chain, reading_at, Walked}
use Rattle.exhaustive.proofs.Chains.{Facts, sum_facts, left_low}

-- ---- a block's body is the field at its tag, to its last byte, in the layout that the tag says

pub record Bodied (s : List ℕ) (b : Block) : Type 0 where
  pub body : b.body ≡ field_value (drop b.body_at s)
  pub whole : b.body_at + (3 + field_len (drop b.body_at s)) ≤ length s
  pub layout : b.sum.strip ≡ is_strip (drop b.body_at s)

blocks-bodied : (strip : Bool) (n a b end : ℕ) (m s : List ℕ) → bodies_of strip n b (drop b s) ≡ done end → All (Bodied s) (blocks_of n a m b (drop b s))
unfolding blocks_of sum_of
blocks-bodied strip zero a b end m s h = tt
blocks-bodied strip (suc n) a b end m s h =
    let k = 3 + field_len (drop b s) in
    let w = bodies-whole strip (suc n) b s end (omega arith) h in
    let rest : bodies_of strip n (b + k) (drop (b + k) s) ≡ done end = rw (bodies-step strip (suc n) b s (omega arith) w, sub-one) at h in
    rw (drop-drop k b s) (record { body = refl; whole = omega (arith, whole-size (tag_of strip) (drop b s) w, length-drop b s); layout = refl }, blocks-bodied strip n (a + 12) (b + k) end (drop 12 m) s rest)

left-bodied : (s : List ℕ) (r : Reading) → Rests s r → All (Bodied s) (blocks_left s r)
unfolding blocks_left
left-bodied s r q = blocks-bodied q.strip r.left r.sum r.body q.end (drop r.sum s) s q.bodied

-- ---- right summaries

chain_facts : (prev : ℕ) (bs : List Block) → Chain prev bs → All (λ b. Facts 0 b.sum) bs
chain_facts prev [] h = tt
chain_facts prev (b ∷ bs) h =
    let f = sum_facts prev b.sum h.0 in
    (record { above = omega (arith, f.above); order = f.order; some = f.some; most = f.most }, chain_facts b.sum.greatest bs h.1)

chain-rises : (prev : ℕ) (bs : List Block) → Chain prev bs → Rises prev (map block_of bs)
chain-rises prev [] h = tt
chain-rises prev (b ∷ bs) h = let f = sum_facts prev b.sum h.0 in (f.above, f.order, chain-rises b.sum.greatest bs h.1)

-- ---- a list that was walked

-- what the search asks of a block
pub record Fit (s : List ℕ) (b : Block) : Type 0 where
  pub facts : Facts 0 b.sum
  pub below : b.sum.greatest ≤ max_docid
  pub bodied : Bodied s b

pub left_is : (s : List ℕ) (at count : ℕ) → blocks_left s (reading_at at count) ≡ blocks_at s at count
unfolding blocks_left blocks_at blocks_of
left_is s at count = split (eqb count 0) (λ z. let k : count ≡ 0 = eqb-true _ _ z in rw (z, k)) (λ z. rw z)

module _ (s : List ℕ) (h : Bytes s) (at count : ℕ) (w : Walked s at count) where
  pub list-fit : All (Fit s) (blocks_at s at count)
  list-fit =
      let bs = blocks_left s (reading_at at count) in
      let low : All (λ (b : Block). b.sum.greatest ≤ max_docid) bs = left_low s (reading_at at count) h w.0 in
      let sums : All (λ (b : Block). Facts 0 b.sum × (b.sum.greatest ≤ max_docid)) bs = All_both bs (λ b f g. (f, g)) (chain_facts 0 bs w.1) low in
      let all : All (Fit s) bs = All_both bs (λ b f g. record { facts = f.0; below = f.1; bodied = g }) sums (left-bodied s (reading_at at count) w.0) in
      rw (left_is s at count) at all

  pub list-rises : Rises 0 (map block_of (blocks_at s at count))
  list-rises = rw (left_is s at count) at (chain-rises 0 (blocks_left s (reading_at at count)) w.1)
