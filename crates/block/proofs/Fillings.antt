-- A loop that reads a body's postings into two lent runs: what is left to judge, and what is left to store. Assumes nothing.
use Prim.Native.Nat.{ℕ, ◌+◌, ◌≤◌, ◌<◌, max}
use native.Mathlib.Omega.{arith}
use mathlib.Core.Path.{◌≡◌, refl, ap, ◌∙◌}
use mathlib.Core.List.{List, [], ◌∷◌}
use lib.ListN.{length, set, length-set}
use Rattle.model.specs.Post.{docs, scores}
use Rattle.model.specs.Runs.{Stored}
use Rattle.model.proofs.Storing.{Rest, rest-start, rest-turn, rest_end}
use Rattle.block.specs.Body.{fits, body_run, ReadsInto}
use Rattle.block.specs.Cursor.{fresh, step_at, posts_at, run_at}
use Rattle.block.specs.declared.summary.Summary.{Summary}
use Rattle.block.specs.declared.cursor.Cursor.{Cursor}
use Rattle.block.specs.declared.cursor.Step.TheVariants.{Posting}
use Rattle.block.proofs.Steps.{step-onward, fit-posting, run-posting}
use Rattle.block.proofs.Bodies.{front, back, right-fresh, run-fresh}

-- one number stored
stored_one : (l : List ℕ) (i x : ℕ) → Stored l (set l i x) i (i + 1) (x ∷ [])
stored_one l i x = record { past = refl; whole = refl }

-- from the cursor b, at the place `at` of the runs ds₀ and ss₀, the loop has come to the cursor c, at i of the runs ds and ss
pub record Filling (g w : List ℕ) (greatest top : ℕ) (b : Cursor) (at : ℕ) (ds₀ ss₀ ds ss : List ℕ) (c : Cursor) (last most i : ℕ) : Type 0 where
  pub judge : fits greatest top 0 0 (posts_at g w b) ≡ fits greatest top last most (posts_at g w c)
  pub docids : Rest ds₀ ds at i (docs (run_at g w b)) (docs (run_at g w c))
  pub scored : Rest ss₀ ss at i (scores (run_at g w b)) (scores (run_at g w c))
  pub roomy : i + c.left ≤ length ds
  pub wide : i + c.left ≤ length ss

pub fill_start : (g w : List ℕ) (m : Summary) (b : Cursor) (at : ℕ) (ds ss : List ℕ) → b ≡ fresh m → at + m.count ≤ length ds → at + m.count ≤ length ss →
    Filling g w m.greatest m.top b at ds ss ds ss b 0 0 at
unfolding fresh
fill_start g w m b at ds ss e h k =
    let l : b.left ≡ m.count = ap (λ (x : Cursor). x.left) e in
    record {
      judge = refl;
      docids = rest-start ds at (docs (run_at g w b));
      scored = rest-start ss at (scores (run_at g w b));
      roomy = omega arith;
      wide = omega arith;
    }

module _ {g w : List ℕ} {greatest top : ℕ} {b : Cursor} {at : ℕ} {ds₀ ss₀ ds ss : List ℕ} {c : Cursor} {last most i : ℕ} where
  -- a posting is there: both runs have room for it, and the loop goes on past it
  pub fill-room : (d x : ℕ) (next : Cursor) → step_at g w c ≡ Posting d x next → Filling g w greatest top b at ds₀ ss₀ ds ss c last most i → (i < length ds) × (i < length ss)
  fill-room d x next e f =
      let o = step-onward g w c d x next e in
      (omega (arith, f.roomy, o.0), omega (arith, f.wide, o.0))

  pub fill-turn : (d x : ℕ) (next : Cursor) → step_at g w c ≡ Posting d x next → Filling g w greatest top b at ds₀ ss₀ ds ss c last most i →
      Filling g w greatest top b at ds₀ ss₀ (set ds i d) (set ss i x) next d (max most x) (i + 1)
  fill-turn d x next e f =
      let o = step-onward g w c d x next e in
      let r = run-posting g w c d x next e in
      record {
        judge = f.judge ∙ fit-posting g w c greatest top last most d x next e;
        docids = rest-turn (d ∷ []) (docs (run_at g w next)) (ap docs r) f.docids (stored_one ds i d);
        scored = rest-turn (x ∷ []) (scores (run_at g w next)) (ap scores r) f.scored (stored_one ss i x);
        roomy = simp length-set (omega (arith, f.roomy, o.0));
        wide = simp length-set (omega (arith, f.wide, o.0));
      }

-- nothing more is read of a body's two runs: the lent runs hold what was
pub fill_done : (s : List ℕ) (m : Summary) (g w : List ℕ) → g ≡ front m s → w ≡ back m s →
    (b : Cursor) (at : ℕ) (ds₀ ss₀ ds ss : List ℕ) (c : Cursor) (last most i : ℕ) → b ≡ fresh m → run_at g w c ≡ [] →
    Filling g w m.greatest m.top b at ds₀ ss₀ ds ss c last most i → ReadsInto m s at ds₀ ss₀ ds ss (fits m.greatest m.top last most (posts_at g w c))
fill_done s m g w p q b at ds₀ ss₀ ds ss c last most i e n f =
    let run : run_at g w b ≡ body_run m s = rw (p, q, e, run-fresh m s) in
    record {
      right = cc (right-fresh m s, e, p, q, f.judge);
      docids = (rest_end (ap docs n) f.docids).whole ∙ rw run;
      scored = (rest_end (ap scores n) f.scored).whole ∙ rw run;
    }
