-- A list shown in place shows exactly the blocks of the list that was found, as they stand in the shelf. Assumes nothing.
use Prim.Native.Nat.{ℕ, zero, suc, ◌+◌, ◌*◌}
use native.Mathlib.Omega.{arith}
use native.Mathlib.Numerals.{sub-one}
use mathlib.Core.Path.{◌≡◌, refl, sym, ap, subst, ◌∙◌}
use mathlib.Core.List.{List, [], ◌∷◌}
use mathlib.Core.Bool.{Bool, true, false, cond, ◌&&◌}
use borrow.Author.Tests.{ltb-true, ltb-false, le-leb, lt-ltb, le-ltb}
use lib.Dec.{ltb}
use lib.ListN.{length, take, drop}
use lib.Seq.{drop-drop}
use Rattle.model.specs.Outcome.{refused, done}
use Rattle.model.specs.Runs.{All}
use Rattle.model.proofs.Lists.{split}
use Rattle.wire.specs.Field.{whole, field_len, field_value}
use Rattle.wire.proofs.Fields.{value-length}
use Rattle.block.specs.Summary.{sum_of}
use Rattle.block.specs.Body.{is_strip, tag_of}
use Rattle.shelf.specs.Walk.{Block, Listing, bodies_of, bodies, blocks_of, blocks_at}
use Rattle.shelf.specs.Answers.{Ready}
use Rattle.lookup.specs.Find.{found}
use Rattle.shelf.specs.Answers.{placed}
use Rattle.lookup.specs.Show.{bodies_from, has_block, summary_shown, part_at, part_past, body_shown, block_of, summary_of_block, part_of_block}
use Rattle.shelf.specs.declared.walk.Place.{Place}
use Rattle.shelf.proofs.Walks.{bodies-none, bodies-step, bodies-whole, strip-is}
use Rattle.lookup.proofs.Stands.{found_stands}

and_is : (b : Bool) → (b && true) ≡ b
and_is true = refl
and_is false = refl

-- ---- block j of a list that stands in the shelf

ltb-suc : (j n : ℕ) → ltb (suc j) (suc n) ≡ ltb j n
ltb-suc j n =
    split (ltb j n)
    (λ e. rw e (lt-ltb (suc j) (suc n) (omega (arith, ltb-true j n e))))
    (λ e. rw e (le-ltb (suc j) (suc n) (omega (arith, ltb-false j n e))))

module _ (strip : Bool) where
  nth_summary : (n a b j end : ℕ) (s : List ℕ) → bodies_of strip n b (drop b s) ≡ done end →
      summary_of_block (block_of (blocks_of n a (drop a s) b (drop b s)) j) ≡ cond (ltb j n) (done (sum_of strip (drop (a + 12 * j) s))) (refused 12 0)
  unfolding blocks_of
  nth_summary zero a b j end s h = rw (le-ltb j 0 (omega arith))
  nth_summary (suc n) a b zero end s h =
      let e : a + 12 * 0 ≡ a = omega arith in
      let w = bodies-whole strip (suc n) b s end (omega arith) h in
      rw (lt-ltb 0 (suc n) (omega arith), e, strip-is strip (drop b s) w)
  nth_summary (suc n) a b (suc j) end s h =
      let k = 3 + field_len (drop b s) in
      let e : a + 12 + 12 * j ≡ a + 12 * suc j = omega arith in
      let w = bodies-whole strip (suc n) b s end (omega arith) h in
      let rest : bodies_of strip n (b + k) (drop (b + k) s) ≡ done end = rw (bodies-step strip (suc n) b s (omega arith) w, sub-one) at h in
      rw (drop-drop 12 a s, drop-drop k b s, ltb-suc j n) (nth_summary n (a + 12) (b + k) j end s rest ∙ rw e)

  nth_body : (n a b j end : ℕ) (m s : List ℕ) → bodies_of strip n b (drop b s) ≡ done end →
      part_of_block (block_of (blocks_of n a m b (drop b s)) j) ≡ cond (ltb j n) (part_past s (bodies_of strip j b (drop b s))) (refused 12 0)
  unfolding blocks_of part_at
  nth_body zero a b j end m s h = rw (le-ltb j 0 (omega arith))
  nth_body (suc n) a b zero end m s h =
      let w = bodies-whole strip (suc n) b s end (omega arith) h in
      rw (lt-ltb 0 (suc n) (omega arith), bodies-none strip 0 b s (omega arith), strip-is strip (drop b s) w, w, value-length (tag_of strip) (drop b s) w)
  nth_body (suc n) a b (suc j) end m s h =
      let k = 3 + field_len (drop b s) in
      let w = bodies-whole strip (suc n) b s end (omega arith) h in
      let rest : bodies_of strip n (b + k) (drop (b + k) s) ≡ done end = rw (bodies-step strip (suc n) b s (omega arith) w, sub-one) at h in
      rw (drop-drop k b s, bodies-step strip (suc j) b s (omega arith) w, sub-one, ltb-suc j n) (nth_body n (a + 12) (b + k) j end (drop 12 m) s rest)

-- a body's bytes stand in the shelf past its tag and its length
abbrev InShelf : List ℕ → Block → Type 0
InShelf s b = take (length b.body) (drop (b.body_at + 3) s) ≡ b.body

value_stands : (t : ℕ) (s : List ℕ) (b : ℕ) → whole t (drop b s) ≡ true → take (length (field_value (drop b s))) (drop (b + 3) s) ≡ field_value (drop b s)
unfolding field_value
value_stands t s b w =
    let e : length (take (field_len (drop b s)) (drop 3 (drop b s))) ≡ field_len (drop b s) = value-length t (drop b s) w in
    rw (e, drop-drop 3 b s)

bodies-stand : (strip : Bool) (n a b end : ℕ) (m s : List ℕ) → bodies_of strip n b (drop b s) ≡ done end → All (InShelf s) (blocks_of n a m b (drop b s))
unfolding blocks_of
bodies-stand strip zero a b end m s h = tt
bodies-stand strip (suc n) a b end m s h =
    let k = 3 + field_len (drop b s) in
    let w = bodies-whole strip (suc n) b s end (omega arith) h in
    let rest : bodies_of strip n (b + k) (drop (b + k) s) ≡ done end = rw (bodies-step strip (suc n) b s (omega arith) w, sub-one) at h in
    rw (drop-drop k b s) (value_stands (tag_of strip) s b w, bodies-stand strip n (a + 12) (b + k) end (drop 12 m) s rest)

block-has : (P : Block → Type 0) (bs : List Block) (j : ℕ) (b : Block) → block_of bs j ≡ done b → All P bs → P b
block-has P [] j b e all = let z : ◌≡◌ {A = ℕ} 0 1 = cc in absurd (omega arith)
block-has P (c ∷ bs) zero b e all = let q : c ≡ b = cc in subst (λ (x : Block). P x) q all.0
block-has P (c ∷ bs) (suc j) b e all = block-has P bs j b e all.1

-- ---- a list that was found: block j is shown, as it stands in the shelf, and 12 where there is none

module _ (s : List ℕ) (p : Place) (r : Ready s p) (j : ℕ) where
  has-is : has_block s p j ≡ ltb j p.count
  unfolding has_block
  has-is = rw (le-leb (bodies_from p) (length s) r.room) (and_is (ltb j p.count))

  ready-summary : summary_shown s (done p) j ≡ summary_of_block (block_of (blocks_at s p.at p.count) j)
  unfolding summary_shown blocks_at bodies
  ready-summary = rw has-is (sym (nth_summary (is_strip (drop (bodies_from p) s)) p.count (p.at + 8) (bodies_from p) j p.next s r.bodied))

  ready-body : body_shown s (done p) j ≡ part_of_block (block_of (blocks_at s p.at p.count) j)
  unfolding body_shown blocks_at bodies
  ready-body = rw has-is (sym (nth_body (is_strip (drop (bodies_from p) s)) p.count (p.at + 8) (bodies_from p) j p.next (drop (p.at + 8) s) s r.bodied))

module _ (t : ℕ) (s : List ℕ) (l : Listing) (e : found t s ≡ done l) (j : ℕ) where
  pub shown-summary : summary_shown s (placed (found t s)) j ≡ summary_of_block (block_of l.blocks j)
  shown-summary = let k = found_stands t s l e in rw (e, k.blocks) (ready-summary s l.place k.ready j)

  pub shown-body : body_shown s (placed (found t s)) j ≡ part_of_block (block_of l.blocks j)
  shown-body = let k = found_stands t s l e in rw (e, k.blocks) (ready-body s l.place k.ready j)

  pub shown-bytes : (b : Block) → block_of l.blocks j ≡ done b → take (length b.body) (drop (b.body_at + 3) s) ≡ b.body
  unfolding blocks_at bodies
  shown-bytes b q =
      let k = found_stands t s l e in
      let p = l.place in
      let f : block_of (blocks_at s p.at p.count) j ≡ done b = sym (ap (λ (x : List Block). block_of x j) k.blocks) ∙ q in
      block-has (InShelf s) (blocks_at s p.at p.count) j b f (bodies-stand (is_strip (drop (bodies_from p) s)) p.count (p.at + 8) (bodies_from p) p.next (drop (p.at + 8) s) s k.ready.bodied)
