-- What a cursor's step gives, by the tests that its code makes; and the postings of a body, by the cursor's steps. Assumes nothing.
use Prim.Native.Nat.{ℕ, zero, suc, ◌+◌, ◌-◌, ◌≤◌, ◌<◌, max}
use native.Mathlib.Omega.{arith}
use native.Mathlib.Numerals.{sub-one}
use mathlib.Core.Path.{◌≡◌, refl, sym, ap, ◌∙◌}
use mathlib.Core.List.{List, [], ◌∷◌}
use mathlib.Core.Bool.{Bool, true, false, cond, ◌&&◌}
use borrow.Author.Tests.{le-leb, lt-leb}
use lib.ListN.{length, drop}
use lib.Seq.{drop-drop}
use lib.Dec.{eqb, leb, ltb}
use Rattle.model.specs.Post.{Post, post}
use Rattle.model.proofs.Lists.{rest_cons, rest-none}
use Rattle.wire.specs.Read.{Read, got, stopped, further}
use Rattle.wire.specs.Number.{num}
use Rattle.wire.specs.Gap.{gap, gap_at, score, score_at}
use Rattle.std.specs.Prelude.{Ok, Err}
use Rattle.wire.proofs.Gaps.{gap-got, gap-not, score-got, score-not}
use Rattle.block.specs.Body.{score_in, wide, with_doc, gapped, posting, posts, onto, and_on, fits, read_on, read_to}
use Rattle.block.specs.Cursor.{past, moved, stepped, ended, step_of, step_at, scored_at, posts_at, run_at}
use Rattle.block.specs.declared.cursor.Cursor.{Cursor}
use Rattle.block.specs.declared.cursor.Step.{Step}
use Rattle.block.specs.declared.cursor.Step.TheVariants.{Posting, End, Bad}
use Rattle.block.proofs.Contents.{score-on}

-- ---- the score of a posting whose docid is known

-- a score takes two bytes
abbrev takes : Read ℕ → ℕ
takes (got x k) = k
takes (stopped k) = 2

score_two : (s : List ℕ) → takes (score s) ≡ 2
unfolding score
score_two s = go (leb 2 (length s) && ltb 0 (num 2 s))
  where
    go : (b : Bool) → takes (cond b (got (num 2 s) 2) (stopped 0)) ≡ 2
    go true = refl
    go false = refl

module _ (g w : List ℕ) (c : Cursor) where
  pub scored-strip : c.strip ≡ true → (x p : ℕ) → score_at w c.points ≡ Ok (x, p) → scored_at g w c ≡ Posting c.doc x (past c.strip c.greatest c.left c.at p (post c.doc x))
  unfolding scored_at
  scored-strip s x p e =
      let q = score-got w c.points x p e in
      let two : q.0 ≡ 2 = rw q.1 at (score_two (drop c.points w)) in
      let here : c.at + 0 ≡ c.at = omega arith in
      let there : c.points + 2 ≡ p = omega (arith, two, q.2) in
      rw (s, q.1, here, there)

  pub scored-turn : c.strip ≡ false → (x p : ℕ) → score_at g c.at ≡ Ok (x, p) → scored_at g w c ≡ Posting c.doc x (past c.strip c.greatest c.left p c.points (post c.doc x))
  unfolding scored_at
  scored-turn s x p e =
      let q = score-got g c.at x p e in
      let here : c.points + 0 ≡ c.points = omega arith in
      rw (s, q.1, here, ← q.2)

  pub strip-not : c.strip ≡ true → (p : ℕ) → score_at w c.points ≡ Err p → scored_at g w c ≡ Bad
  unfolding scored_at
  strip-not s p e = let q = score-not w c.points p e in rw (s, q.1)

  pub turn-not : c.strip ≡ false → (p : ℕ) → score_at g c.at ≡ Err p → scored_at g w c ≡ Bad
  unfolding scored_at
  turn-not s p e = let q = score-not g c.at p e in rw (s, q.1)

-- a posting that starts k bytes on, and the posting at the place k bytes on
scored-on : (strip : Bool) (g w : List ℕ) (greatest left d at points k : ℕ) →
    stepped strip greatest left at points (further k (with_doc strip d (score (score_in strip k (drop at g) w))))
    ≡ stepped strip greatest left (at + k) points (with_doc strip d (score (score_in strip 0 (drop (at + k) g) w)))
scored-on strip g w greatest left d at points k = rw (score-on strip k (drop at g) w, drop-drop k at g) (go (with_doc strip d (score (score_in strip 0 (drop (at + k) g) w))))
  where
    go : (r : Read Post) → stepped strip greatest left at points (further k r) ≡ stepped strip greatest left (at + k) points r
    go (got p j) = ap (λ (x : ℕ). Posting p.doc p.score (past strip greatest left x (points + wide strip) p)) (omega arith)
    go (stopped j) = refl

-- ---- the step

module _ (g w : List ℕ) (c : Cursor) where
  pub step_end : c.left ≡ 0 → length g ≤ c.at → length w ≤ c.points → step_at g w c ≡ End
  unfolding step_at step_of
  step_end e h k = rw (e, rest-none g c.at h, rest-none w c.points k)

  pub step_over : c.left ≡ 0 → c.at < length g → step_at g w c ≡ Bad
  unfolding step_at step_of
  step_over e h = rw (e, rest_cons g c.at h)

  pub step_spare : c.left ≡ 0 → length g ≤ c.at → c.points < length w → step_at g w c ≡ Bad
  unfolding step_at step_of
  step_spare e h k = rw (e, rest-none g c.at h, rest_cons w c.points k)

first_of : (strip : Bool) (g w : List ℕ) (greatest left at points d : ℕ) → (left ≡ 0 → ⊥) →
    step_of strip greatest left at points true d g w ≡ stepped strip greatest (left - 1) at points (with_doc strip d (score (score_in strip 0 g w)))
unfolding step_of posting
first_of strip g w greatest zero at points d z = absurd (z refl)
first_of strip g w greatest (suc n) at points d z = rw sub-one

later_of : (strip : Bool) (g w : List ℕ) (greatest left at points d : ℕ) → (left ≡ 0 → ⊥) →
    step_of strip greatest left at points false d g w ≡ stepped strip greatest (left - 1) at points (gapped strip greatest d g w (gap 4 g))
unfolding step_of posting
later_of strip g w greatest zero at points d z = absurd (z refl)
later_of strip g w greatest (suc n) at points d z = rw sub-one

module _ (g w : List ℕ) (c : Cursor) (some : c.left ≡ 0 → ⊥) where
  pub step-first : c.first ≡ true → step_at g w c ≡ scored_at g w (moved c c.at c.doc)
  unfolding step_at scored_at
  step-first e = rw e (first_of c.strip (drop c.at g) (drop c.points w) c.greatest c.left c.at c.points c.doc some)

  later : c.first ≡ false → step_at g w c ≡ stepped c.strip c.greatest (c.left - 1) c.at c.points (gapped c.strip c.greatest c.doc (drop c.at g) (drop c.points w) (gap 4 (drop c.at g)))
  unfolding step_at
  later e = rw e (later_of c.strip (drop c.at g) (drop c.points w) c.greatest c.left c.at c.points c.doc some)

  pub step-gap : c.first ≡ false → (x p : ℕ) → gap_at 4 g c.at ≡ Ok (x, p) → c.doc + 1 + x ≤ c.greatest → step_at g w c ≡ scored_at g w (moved c p (c.doc + 1 + x))
  unfolding gapped scored_at
  step-gap e x p q h =
      let r = gap-got 4 g c.at x p q in
      let on = scored-on c.strip g (drop c.points w) c.greatest (c.left - 1) (c.doc + 1 + x) c.at c.points r.0 in
      rw (later e, r.1, le-leb (c.doc + 1 + x) c.greatest h) (on ∙ ap (λ (y : ℕ). scored_at g w (moved c y (c.doc + 1 + x))) (sym r.2))

  pub step-above : c.first ≡ false → (x p : ℕ) → gap_at 4 g c.at ≡ Ok (x, p) → c.greatest < c.doc + 1 + x → step_at g w c ≡ Bad
  unfolding gapped
  step-above e x p q h =
      let r = gap-got 4 g c.at x p q in
      rw (later e, r.1, lt-leb (c.doc + 1 + x) c.greatest h)

  pub step-not : c.first ≡ false → (p : ℕ) → gap_at 4 g c.at ≡ Err p → step_at g w c ≡ Bad
  unfolding gapped
  step-not e p q =
      let r = gap-not 4 g c.at p q in
      rw (later e, r.1)

-- ---- a step leaves fewer postings, and the same greatest docid

abbrev Onward : (greatest n : ℕ) → Step → Type 0
Onward greatest n (Posting d x c) = (c.left < n) × (c.greatest ≡ greatest)
Onward greatest n End = Unit {0}
Onward greatest n Bad = Unit {0}

onward : (strip : Bool) (greatest left at points : ℕ) (first : Bool) (d : ℕ) (g w : List ℕ) → Onward greatest left (step_of strip greatest left at points first d g w)
unfolding step_of
onward strip greatest zero at points first d [] [] = tt
onward strip greatest zero at points first d [] (b ∷ w) = tt
onward strip greatest zero at points first d (b ∷ g) w = tt
onward strip greatest (suc n) at points first d g w = go (posting strip greatest first d g w)
  where
    go : (r : Read Post) → Onward greatest (suc n) (stepped strip greatest n at points r)
    go (got p k) = (omega arith, refl)
    go (stopped k) = tt

pub step-onward : (g w : List ℕ) (c : Cursor) (d x : ℕ) (next : Cursor) → step_at g w c ≡ Posting d x next → (next.left < c.left) × (next.greatest ≡ c.greatest)
unfolding step_at
step-onward g w c d x next e = rw e at (onward c.strip c.greatest c.left c.at c.points c.first c.doc (drop c.at g) (drop c.points w))

-- ---- the judgement of what is left, by the cursor's step

fits_on : (greatest top d m k : ℕ) (p : Post) (r : Read (List Post)) → fits greatest top d m (further k (onto p r)) ≡ fits greatest top p.doc (max m p.score) r
fits_on greatest top d m k p (got ps j) = refl
fits_on greatest top d m k p (stopped j) = refl

-- what a step says of the postings r that are left
abbrev Agrees : (g w : List ℕ) (greatest top d m : ℕ) → Read (List Post) → Step → Type 0
Agrees g w greatest top d m r (Posting e x next) = fits greatest top d m r ≡ fits greatest top e (max m x) (posts_at g w next)
Agrees g w greatest top d m r End = fits greatest top d m r ≡ (eqb d greatest && eqb m top)
Agrees g w greatest top d m r Bad = fits greatest top d m r ≡ false

agrees_of : (g w : List ℕ) (strip : Bool) (most greatest top d m left at points : ℕ) (first : Bool) (x : ℕ) →
    Agrees g w greatest top d m (posts strip most left first x (drop at g) (drop points w)) (step_of strip most left at points first x (drop at g) (drop points w))
unfolding posts step_of posts_at
agrees_of g w strip most greatest top d m zero at points first x = none (drop at g) (drop points w)
  where
    none : (a b : List ℕ) → Agrees g w greatest top d m (posts strip most 0 first x a b) (ended a b)
    none [] [] = refl
    none [] (y ∷ b) = refl
    none (y ∷ a) b = refl
agrees_of g w strip most greatest top d m (suc n) at points first x = go (posting strip most first x (drop at g) (drop points w))
  where
    go : (r : Read Post) → Agrees g w greatest top d m (and_on r (λ p k. posts strip most n false p.doc (drop k (drop at g)) (drop (wide strip) (drop points w)))) (stepped strip most n at points r)
    go (got p k) = rw (drop-drop k at g, drop-drop (wide strip) points w) (fits_on greatest top d m k p (posts strip most n false p.doc (drop (at + k) g) (drop (points + wide strip) w)))
    go (stopped k) = refl

module _ (g w : List ℕ) (c : Cursor) (greatest top d m : ℕ) where
  agrees : Agrees g w greatest top d m (posts_at g w c) (step_at g w c)
  unfolding posts_at step_at
  agrees = agrees_of g w c.strip c.greatest greatest top d m c.left c.at c.points c.first c.doc

  pub fit-posting : (e x : ℕ) (next : Cursor) → step_at g w c ≡ Posting e x next → fits greatest top d m (posts_at g w c) ≡ fits greatest top e (max m x) (posts_at g w next)
  fit-posting e x next h = rw h at agrees

  pub fit-end : step_at g w c ≡ End → fits greatest top d m (posts_at g w c) ≡ (eqb d greatest && eqb m top)
  fit-end h = rw h at agrees

  pub fit_bad : step_at g w c ≡ Bad → fits greatest top d m (posts_at g w c) ≡ false
  fit_bad h = rw h at agrees

-- ---- what is read into a run, by the cursor's step

abbrev Runs : (g w : List ℕ) → List Post → Step → Type 0
Runs g w ps (Posting e x next) = ps ≡ post e x ∷ run_at g w next
Runs g w ps End = ps ≡ []
Runs g w ps Bad = ps ≡ []

runs_of : (g w : List ℕ) (strip : Bool) (greatest left at points : ℕ) (first : Bool) (d : ℕ) →
    Runs g w (read_to strip greatest left first d (drop at g) (drop points w)) (step_of strip greatest left at points first d (drop at g) (drop points w))
unfolding read_to step_of run_at
runs_of g w strip greatest zero at points first d = none (drop at g) (drop points w)
  where
    none : (a b : List ℕ) → Runs g w [] (ended a b)
    none [] [] = refl
    none [] (y ∷ b) = refl
    none (y ∷ a) b = refl
runs_of g w strip greatest (suc n) at points first d = go (posting strip greatest first d (drop at g) (drop points w))
  where
    go : (r : Read Post) → Runs g w (read_on r (λ p k. read_to strip greatest n false p.doc (drop k (drop at g)) (drop (wide strip) (drop points w)))) (stepped strip greatest n at points r)
    go (got p k) = rw (drop-drop k at g, drop-drop (wide strip) points w)
    go (stopped k) = refl

module _ (g w : List ℕ) (c : Cursor) where
  runs : Runs g w (run_at g w c) (step_at g w c)
  unfolding run_at step_at
  runs = runs_of g w c.strip c.greatest c.left c.at c.points c.first c.doc

  pub run-posting : (e x : ℕ) (next : Cursor) → step_at g w c ≡ Posting e x next → run_at g w c ≡ post e x ∷ run_at g w next
  run-posting e x next h = rw h at runs

  pub run_end : step_at g w c ≡ End → run_at g w c ≡ []
  run_end h = rw h at runs

  pub run_bad : step_at g w c ≡ Bad → run_at g w c ≡ []
  run_bad h = rw h at runs
