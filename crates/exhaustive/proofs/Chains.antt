-- What right summaries say of a list's blocks. Assumes nothing.
use Prim.Native.Nat.{ℕ, zero, suc, ◌+◌, ◌*◌, ◌≤◌, ◌<◌}
use mathlib.Core.Path.{◌≡◌}
use mathlib.Core.Bool.{Bool, true}
use mathlib.Core.List.{List}
use native.Mathlib.Omega.{arith}
use lib.ListN.{length, drop, length-drop}
use lib.Dec.{leb, ltb}
use borrow.Author.Tests.{leb-true, ltb-true}
use Rattle.model.specs.Limits.{max_docid, per_block}
use Rattle.model.specs.Runs.{All, Bytes}
use Rattle.model.proofs.Lists.{and-true, bytes_drop}
use Rattle.wire.specs.Field.{field_len}
use Rattle.wire.proofs.Numbers.{num-below}
use Rattle.block.specs.Body.{is_strip}
use Rattle.block.specs.Summary.{sum_of, right_sum}
use Rattle.block.specs.declared.summary.Summary.{Summary}
use Rattle.shelf.specs.Walk.{Block, blocks_of}
use Rattle.shelf.specs.Blocks.{blocks_left, Rests}
use Rattle.shelf.specs.declared.blocks.Reading.{Reading}

pub record Facts (prev : ℕ) (m : Summary) : Type 0 where
  pub above : prev < m.least
  pub order : m.least ≤ m.greatest
  pub some : 0 < m.count
  pub most : m.count ≤ per_block

pub sum_facts : (prev : ℕ) (m : Summary) → right_sum prev m ≡ true → Facts prev m
unfolding right_sum
sum_facts prev m e =
    let a = and-true (ltb prev m.least) _ e in
    let b = and-true (leb m.least m.greatest) _ a.1 in
    let c = and-true (ltb 0 m.top) _ b.1 in
    let d = and-true (ltb 0 m.count) _ c.1 in
    let f = and-true (leb m.count per_block) _ d.1 in
    record { above = ltb-true _ _ a.0; order = leb-true _ _ b.0; some = ltb-true _ _ d.0; most = leb-true _ _ f.0 }

-- a docid of three bytes is in range
sum_low : (strip : Bool) (m : List ℕ) → Bytes m → 9 ≤ length m → (sum_of strip m).greatest ≤ max_docid
unfolding sum_of
sum_low strip m h l = let k : 3 ≤ length (drop 6 m) = omega (arith, length-drop 6 m) in omega (arith, num-below 3 (drop 6 m) (bytes_drop 6 m h) k)

blocks_low : (n a : ℕ) (m : List ℕ) (b : ℕ) (s : List ℕ) → Bytes m → 12 * n ≤ length m → All (λ (x : Block). x.sum.greatest ≤ max_docid) (blocks_of n a m b s)
unfolding blocks_of
blocks_low zero a m b s h l = tt
blocks_low (suc n) a m b s h l =
    (sum_low (is_strip s) m h (omega arith), blocks_low n (a + 12) (drop 12 m) (b + (3 + field_len s)) (drop (3 + field_len s) s) (bytes_drop 12 m h) (omega (arith, length-drop 12 m)))

pub left_low : (s : List ℕ) (r : Reading) → Bytes s → Rests s r → All (λ (x : Block). x.sum.greatest ≤ max_docid) (blocks_left s r)
unfolding blocks_left
left_low s r h q = blocks_low r.left r.sum (drop r.sum s) r.body (drop r.body s) (bytes_drop r.sum s h) (omega (arith, length-drop r.sum s, q.room))
