-- The blocks of a list, one after another: what a reading place's step finds. Assumes nothing.
use Prim.Native.Nat.{ℕ, zero, suc, ◌+◌, ◌-◌, ◌*◌, ◌≤◌, ◌<◌}
use native.Mathlib.Numerals.{sub-one}
use lib.Seq.{drop-drop}
use native.Mathlib.Omega.{arith}
use mathlib.Core.Path.{◌≡◌, refl, sym, ap, ◌∙◌}
use mathlib.Core.List.{List, [], ◌∷◌}
use lib.ListN.{length, take, drop}
use Rattle.wire.specs.Number.{num}
use Rattle.wire.specs.Field.{field_len, field_value}
use mathlib.Core.Bool.{Bool, true, false}
use Rattle.block.specs.Summary.{sum_of}
use Rattle.block.specs.Body.{is_strip, right_body}
use Rattle.block.specs.declared.summary.Summary.{Summary}
use Rattle.shelf.specs.Check.{bad_body}
use Rattle.std.specs.Prelude.{Some, None}
use Rattle.shelf.specs.Walk.{Block, bodies_of, bodies, blocks_of, blocks_at}
use Rattle.shelf.specs.Answers.{Stands, Ready}
use Rattle.shelf.specs.Blocks.{reading_of, blocks_left, Rests, Finds}
use Rattle.shelf.specs.declared.walk.Place.{Place}
use Rattle.shelf.specs.declared.blocks.Reading.{Reading}
use Rattle.shelf.proofs.Walks.{body-room, body-turn}

blocks_more : (n a b : ℕ) (s : List ℕ) → 0 < n → blocks_of n a (drop a s) b (drop b s)
    ≡ record { at = a; sum = sum_of (is_strip (drop b s)) (drop a s); body_at = b; body = field_value (drop b s) }
    ∷ blocks_of (n - 1) (a + 12) (drop (a + 12) s) (b + (3 + field_len (drop b s))) (drop (b + (3 + field_len (drop b s))) s)
unfolding blocks_of
blocks_more zero a b s h = absurd (omega arith)
blocks_more (suc n) a b s h = rw (sub-one, drop-drop 12 a s, drop-drop (3 + field_len (drop b s)) b s)

-- a list that was walked, before its first block
pub stands_rests : (s : List ℕ) (at count next : ℕ) → Stands s at count next → Rests s (record { sum = at + 8; body = at + 8 + 12 * count; left = count })
unfolding bodies
stands_rests s at count next h = record { room = h.room; strip = is_strip (drop (at + 8 + 12 * count) s); end = next; bodied = h.bodied }

pub start-rests : (s : List ℕ) (p : Place) → Ready s p → Rests s (reading_of p)
start-rests s p h = stands_rests s p.at p.count p.next h

-- no block is left
pub none-rests : (s : List ℕ) (a b : ℕ) → a ≤ length s → Rests s (record { sum = a; body = b; left = 0 })
unfolding bodies_of
none-rests s a b h = record { room = omega arith; strip = false; end = b; bodied = refl }

pub start_left_lem : (s : List ℕ) (p : Place) → blocks_left s (reading_of p) ≡ blocks_at s p.at p.count
unfolding blocks_left blocks_at
start_left_lem s p = refl

module _ (s : List ℕ) (r : Reading) where
  pub left-none : r.left ≡ 0 → blocks_left s r ≡ []
  unfolding blocks_left blocks_of
  left-none e = rw e

  -- the tag and the length of the next body
  pub left-room : (r.left ≡ 0 → ⊥) → Rests s r → r.body + 3 ≤ length s
  left-room z h = body-room h.strip r.left r.body h.end s (omega arith) h.bodied

  pub left-inside : (n : ℕ) → (r.left ≡ 0 → ⊥) → Rests s r → n ≡ num 2 (drop (r.body + 1) s) → r.body + 3 + n ≤ length s
  left-inside n z h e = (body-turn h.strip r.left r.body n h.end s (omega arith) e h.bodied).within

  -- a block is there: n is its body's length
  pub left-more : (n : ℕ) → (r.left ≡ 0 → ⊥) → Rests s r → n ≡ num 2 (drop (r.body + 1) s) →
      (b : Block) × (b.sum ≡ sum_of (is_strip (drop r.body s)) (drop r.sum s)) × Finds s r b (r.body + 3) (r.body + 3 + n) (record { sum = r.sum + 12; body = r.body + 3 + n; left = r.left - 1 })
  unfolding blocks_left
  left-more n z h e =
      let t = body-turn h.strip r.left r.body n h.end s (omega arith) e h.bodied in
      let b : Block = record { at = r.sum; sum = sum_of (is_strip (drop r.body s)) (drop r.sum s); body_at = r.body; body = field_value (drop r.body s) } in (
        b,
        refl,
        record {
          left = blocks_more r.left r.sum r.body s (omega arith) ∙ ap (λ (x : ℕ). b ∷ blocks_of (r.left - 1) (r.sum + 12) (drop (r.sum + 12) s) x (drop x s)) (sym t.past);
          onward = refl;
          fewer = omega arith;
          rests = record { room = omega (arith, h.room); strip = h.strip; end = h.end; bodied = t.rest };
          order = omega arith;
          inside = t.within;
          tag = refl;
          body = sym t.value;
        },
      )

-- ---- the first wrong body

-- the first wrong body of all blocks from b on is the first of those from r on
pub record Judging (s : List ℕ) (b r : Reading) : Type 0 where
  pub rests : Rests s r
  pub first : bad_body (blocks_left s b) ≡ bad_body (blocks_left s r)

pub judge-start : (s : List ℕ) (p : Place) (r : Reading) → Ready s p → r ≡ reading_of p → Judging s r r
judge-start s p r h e = record { rests = rw e (start-rests s p h); first = refl }

module _ (s : List ℕ) (o r : Reading) (b : Block) (v e : ℕ) (next : Reading) (m : Summary) (q : b.sum ≡ m) (f : Finds s r b v e next) (c : Judging s o r) where
  judged-by : (t : Bool) → right_body m (take (e - v) (drop v s)) ≡ t → right_body b.sum b.body ≡ t
  judged-by t h = rw (q, f.body) h

  pub judge-right : right_body m (take (e - v) (drop v s)) ≡ true → Judging s o next
  judge-right h = record {
    rests = f.rests;
    first = c.first ∙ ap bad_body f.left ∙ rw (judged-by true h);
  }

  pub judge-wrong : right_body m (take (e - v) (drop v s)) ≡ false → bad_body (blocks_left s o) ≡ Some (v - 3)
  judge-wrong h =
      let at : b.body_at ≡ v - 3 = omega (arith, f.tag) in
      c.first ∙ ap bad_body f.left ∙ rw (judged-by false h, at)

pub judge-none : (s : List ℕ) (o r : Reading) → blocks_left s r ≡ [] → Judging s o r → bad_body (blocks_left s o) ≡ None
judge-none s o r e c = c.first ∙ ap bad_body e
