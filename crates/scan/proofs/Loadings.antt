-- A block loaded: its list's head has the body's postings, and every other list has what it had. Assumes nothing.
use Prim.Native.Nat.{ℕ, ◌+◌, ◌≤◌, ◌<◌}
use mathlib.Core.Path.{◌≡◌, refl, sym, ap, ◌∙◌}
use mathlib.Core.Logic.{◌⊎◌, inl, inr}
use mathlib.Core.Bool.{true, false}
use mathlib.Core.List.{List, [], ◌∷◌}
use native.Mathlib.Omega.{arith}
use native.Mathlib.Nat.{add-zero}
use lib.ListN.{length, get_or}
use lib.Seq.{sets, slice, length-sets}
use lib.Dec.{ltb}
use borrow.Author.Tests.{lt-ltb, le-ltb, ltb-true, ltb-false}
use Rattle.model.specs.Limits.{per_block, max_terms, max_docid}
use Rattle.model.specs.Post.{Post, post, postings, docs, scores}
use Rattle.model.specs.Runs.{All}
use Rattle.model.proofs.Lists.{split, map-length}
use Rattle.block.specs.Body.{right_body, body_run, ReadsInto}
use Rattle.block.specs.declared.summary.Summary.{Summary}
use Rattle.block.proofs.Contents.{right-run}
use Rattle.rank.specs.Match.{Term}
use Rattle.rank.specs.Run.{none}
use Rattle.scan.specs.Heads.{roomy, part_of, between, InBuffers, OwnPart, next_head, head_posts, term_of}
use Rattle.scan.specs.Load.{Loadable, head_of, wrong_body, Loads}
use Rattle.scan.specs.declared.head.Head.{Head}
use Rattle.std.specs.Prelude.{Result, Ok, Err}
use Rattle.scan.specs.declared.load.WrongBody.{WrongBody}
use Rattle.block.proofs.Runs.{run-few}
use Rattle.scan.proofs.Parts.{slice-stored, slice_apart}
use Rattle.scan.proofs.Terms.{between_cons, next-term, next-stays, next-own}

-- ---- postings stored into list t's part, and the list's head at the first of them
postings_back : (ps : List Post) → postings (docs ps) (scores ps) ≡ ps
postings_back [] = refl
postings_back (p ∷ ps) = ap {B = List Post} (λ l. p ∷ l) (postings_back ps)

docs-below : (g : ℕ) (ps : List Post) → g ≤ max_docid → All (λ (p : Post). p.doc ≤ g) ps → All (λ d. d < none) (docs ps)
docs-below g [] l a = tt
docs-below g (p ∷ ps) l a = (omega (arith, a.0), docs-below g ps l a.1)

-- a list's head has its postings
pub record Stood (weight t : ℕ) (ps : List Post) (ds ss : List ℕ) (h : Head) : Type 0 where
  pub term : term_of ds ss h ≡ record { weight = weight; posts = ps }
  pub inside : InBuffers ds ss h
  pub own : OwnPart t h

-- postings that list t's part has room for, none above a docid in range
pub record Roomed (t : ℕ) (ps : List Post) (ds ss : List ℕ) : Type 0 where
  pub mine : t < max_terms
  pub few : length ps ≤ per_block
  pub low : All (λ d. d < none) (docs ps)
  pub docids : length ds ≡ roomy
  pub scored : length ss ≡ roomy

-- the buffers with them
abbrev pub with_docs : ℕ → List Post → List ℕ → List ℕ
with_docs t ps ds = sets ds (part_of t) (docs ps)

abbrev pub with_scores : ℕ → List Post → List ℕ → List ℕ
with_scores t ps ss = sets ss (part_of t) (scores ps)

module _ (t : ℕ) (ps : List Post) (ds ss : List ℕ) (r : Roomed t ps ds ss) where
  docs-long : length (docs ps) ≡ length ps
  docs-long = map-length (λ (p : Post). p.doc) ps

  scores-long : length (scores ps) ≡ length ps
  scores-long = map-length (λ (p : Post). p.score) ps

  fit : part_of t + length ps ≤ roomy
  fit = omega (arith, r.mine, r.few)

  part-docs : slice (part_of t) (part_of t + length ps) (with_docs t ps ds) ≡ docs ps
  part-docs = rw docs-long at (slice-stored (docs ps) ds (part_of t) (omega (arith, docs-long, fit, r.docids)))

  part-scores : slice (part_of t) (part_of t + length ps) (with_scores t ps ss) ≡ scores ps
  part-scores = rw scores-long at (slice-stored (scores ps) ss (part_of t) (omega (arith, scores-long, fit, r.scored)))

  part-posts : between (with_docs t ps ds) (with_scores t ps ss) (part_of t) (part_of t + length ps) ≡ ps
  unfolding between
  part-posts = rw (part-docs, part-scores) (postings_back ps)

  docs_stay : length (with_docs t ps ds) ≡ roomy
  docs_stay = length-sets ds (part_of t) (docs ps) ∙ r.docids

  scores_stay : length (with_scores t ps ss) ≡ roomy
  scores_stay = length-sets ss (part_of t) (scores ps) ∙ r.scored

  part-first : 0 < length ps
      → ps ≡ post (get_or (with_docs t ps ds) (part_of t) 0) (get_or (with_scores t ps ss) (part_of t) 0) ∷ between (with_docs t ps ds) (with_scores t ps ss) (part_of t + 1) (part_of t + length ps)
  part-first h =
      sym part-posts
      ∙ between_cons (with_docs t ps ds) (with_scores t ps ss) (part_of t) (part_of t + length ps) (omega arith) (omega (arith, docs_stay, fit)) (omega (arith, scores_stay, fit))

-- before the first posting of list t's part
abbrev entry : (weight t : ℕ) → List Post → Head
entry weight t ps = record { doc = none; score = 0; weight = weight; at = part_of t; end = part_of t + length ps }

-- the head as the code makes it
pub head-code : (weight t n : ℕ) (ps : List Post) (ds ss : List ℕ) → Roomed t ps ds ss → length ps ≡ n → 0 < n
    → head_of weight t ps ≡ record { doc = get_or (with_docs t ps ds) (part_of t) 0; score = get_or (with_scores t ps ss) (part_of t) 0; weight = weight; at = part_of t + 1; end = part_of t + n }
unfolding head_of
head-code weight t n [] ds ss r q h = absurd (omega arith)
head-code weight t n (p ∷ qs) ds ss r q h =
    let f = part-first t (p ∷ qs) ds ss r (omega arith) in
    let e : p ≡ post (get_or (with_docs t (p ∷ qs) ds) (part_of t) 0) (get_or (with_scores t (p ∷ qs) ss) (part_of t) 0) = cc f in
    rw (← q) (ap {B = Head} (λ x. record { doc = x.doc; score = x.score; weight = weight; at = part_of t + 1; end = part_of t + length (p ∷ qs) }) e)

head-next : (weight t : ℕ) (ps : List Post) (ds ss : List ℕ) → Roomed t ps ds ss → head_of weight t ps ≡ next_head (with_docs t ps ds) (with_scores t ps ss) (entry weight t ps)
unfolding next_head head_of
head-next weight t [] ds ss r = rw (le-ltb (part_of t) (part_of t + 0) (omega arith), add-zero (part_of t))
head-next weight t (p ∷ qs) ds ss r = rw (lt-ltb (part_of t) (part_of t + length (p ∷ qs)) (omega arith)) (head-code weight t (length (p ∷ qs)) (p ∷ qs) ds ss r refl (omega arith))

pub stood : (weight t : ℕ) (ps : List Post) (ds ss : List ℕ) → Roomed t ps ds ss → Stood weight t ps (with_docs t ps ds) (with_scores t ps ss) (head_of weight t ps)
stood weight t ps ds ss r =
    let ds' = with_docs t ps ds in
    let ss' = with_scores t ps ss in
    let h = entry weight t ps in
    let i : InBuffers ds' ss' h = record { docids = docs_stay t ps ds ss r; scored = scores_stay t ps ds ss r; inside = fit t ps ds ss r; below = rw (part-docs t ps ds ss r) r.low } in
    rw (head-next weight t ps ds ss r)
    (record {
      term = next-term ds' ss' h i ∙ ap {B = Term} (λ qs. record { weight = weight; posts = qs }) (part-posts t ps ds ss r);
      inside = next-stays ds' ss' h i;
      own = next-own ds' ss' t h (record { from = omega arith; upto = omega (arith, r.few) });
    })

-- ---- every other list has what it had
module _ (t u : ℕ) (ps : List Post) (ds ss : List ℕ) (r : Roomed t ps ds ss) (h : Head) (o : OwnPart u h) (other : u ≡ t → ⊥) where
  apart : (h.end ≤ part_of t) ⊎ (part_of t + length ps ≤ h.at)
  apart =
      split (ltb u t)
      (λ e. inl (omega (arith, ltb-true u t e, o.upto)))
      (λ e. inr (omega (arith, ltb-false u t e, other, o.from, r.few)))

  docs_apart : slice h.at h.end (with_docs t ps ds) ≡ slice h.at h.end ds
  docs_apart = slice_apart (docs ps) ds (part_of t) h.at h.end (rw (docs-long t ps ds ss r) apart)

  scores_apart : slice h.at h.end (with_scores t ps ss) ≡ slice h.at h.end ss
  scores_apart = slice_apart (scores ps) ss (part_of t) h.at h.end (rw (scores-long t ps ds ss r) apart)

  pub other-term : term_of (with_docs t ps ds) (with_scores t ps ss) h ≡ term_of ds ss h
  unfolding head_posts between
  other-term = rw (docs_apart, scores_apart)

  pub other-inside : InBuffers ds ss h → InBuffers (with_docs t ps ds) (with_scores t ps ss) h
  other-inside i = record { docids = docs_stay t ps ds ss r; scored = scores_stay t ps ds ss r; inside = i.inside; below = rw docs_apart i.below }

-- ---- the contract of `load`
pub load-room : (m : Summary) (s : List ℕ) (t : ℕ) (ds ss : List ℕ) → Loadable m t ds ss → Roomed t (body_run m s) ds ss
load-room m s t ds ss l =
    let f = run-few m s l.order in
    record { mine = l.mine; few = omega (arith, f.0, l.most); low = docs-below m.greatest (body_run m s) l.below f.1; docids = l.docids; scored = l.scored }

pub load-right : (m : Summary) (s : List ℕ) (weight t : ℕ) (ds ss ds' ss' : List ℕ) → Loadable m t ds ss → ReadsInto m s (part_of t) ds ss ds' ss' true
    → Loads m s weight t ds ss ds' ss' (Ok (record { doc = get_or ds' (part_of t) 0; score = get_or ss' (part_of t) 0; weight = weight; at = part_of t + 1; end = part_of t + m.count }))
load-right m s weight t ds ss ds' ss' l r =
    record {
      answer = rw (sym r.right, r.docids, r.scored) (ap Ok (sym (head-code weight t m.count (body_run m s) ds ss (load-room m s t ds ss l) (right-run m s (sym r.right)).2 l.some)));
      docids = r.docids;
      scored = r.scored;
    }

pub load-wrong : (m : Summary) (s : List ℕ) (weight t : ℕ) (ds ss ds' ss' : List ℕ) → ReadsInto m s (part_of t) ds ss ds' ss' false → Loads m s weight t ds ss ds' ss' (Err wrong_body)
load-wrong m s weight t ds ss ds' ss' r = record { answer = rw (sym r.right); docids = r.docids; scored = r.scored }

-- ---- what a caller learns of the answer
module _ (m : Summary) (s : List ℕ) (weight t : ℕ) (ds ss ds' ss' : List ℕ) (ok : Loadable m t ds ss) where
  -- the list stands exactly where its body is right, and then has the body's postings
  pub load_stands : (h : Head) → Loads m s weight t ds ss ds' ss' (Ok h) → (right_body m s ≡ true) × Stood weight t (body_run m s) ds' ss' h
  load_stands h l =
      split (right_body m s)
      (λ e. let a : Ok h ≡ Ok (head_of weight t (body_run m s)) = rw e at l.answer in
      let q : h ≡ head_of weight t (body_run m s) = cc in
      (e, rw (q, l.docids, l.scored) (stood weight t (body_run m s) ds ss (load-room m s t ds ss ok))))
      (λ e. let a : Ok h ≡ Err wrong_body = rw e at l.answer in let z : ◌≡◌ {A = ℕ} 0 1 = cc in absurd (omega arith))

  pub load-refused : Loads m s weight t ds ss ds' ss' (Err wrong_body) → right_body m s ≡ false
  load-refused l =
      split (right_body m s)
      (λ e. let a : Err wrong_body ≡ Ok (head_of weight t (body_run m s)) = rw e at l.answer in let z : ◌≡◌ {A = ℕ} 0 1 = cc in absurd (omega arith))
      (λ e. e)

  -- and every list in another part has what it had, whatever the answer
  pub load-others : {r : Result Head WrongBody} → Loads m s weight t ds ss ds' ss' r → (u : ℕ) (h : Head) → OwnPart u h → (u ≡ t → ⊥)
      → (term_of ds' ss' h ≡ term_of ds ss h) × (InBuffers ds ss h → InBuffers ds' ss' h)
  load-others l u h o n =
      let r = load-room m s t ds ss ok in
      rw (l.docids, l.scored) (other-term t u (body_run m s) ds ss r h o n, other-inside t u (body_run m s) ds ss r h o n)

  pub load-long : {r : Result Head WrongBody} → Loads m s weight t ds ss ds' ss' r → (length ds' ≡ roomy) × (length ss' ≡ roomy)
  load-long l =
      let r = load-room m s t ds ss ok in
      (ap length l.docids ∙ docs_stay t (body_run m s) ds ss r, ap length l.scored ∙ scores_stay t (body_run m s) ds ss r)
