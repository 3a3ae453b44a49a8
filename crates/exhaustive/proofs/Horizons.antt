-- A run up to the horizon: the documents of all that the lists have, up to there; and what they then have. Assumes nothing.
use Prim.Native.Nat.{ℕ, suc, ◌-◌, ◌≤◌, ◌<◌, min}
use mathlib.Core.Path.{◌≡◌, refl, sym, ◌∙◌}
use mathlib.Core.Option.{none}
use mathlib.Core.List.{List, [], ◌∷◌, ◌++◌, map}
use native.Mathlib.Omega.{arith}
use lib.ListN.{length}
use lib.Dec.{ltb, leb}
use borrow.Author.Tests.{le-ltb, lt-ltb, ltb-true, ltb-false, leb-true, leb-false}
use Rattle.model.specs.Limits.{max_docid}
use Rattle.model.specs.Post.{Post, docs, Rising}
use Rattle.model.specs.Runs.{All, Bytes}
use Rattle.model.proofs.Lists.{split, All_map, All_image}
use Rattle.model.proofs.Runs.{asc_all}
use Rattle.shelf.specs.Blocks.{blocks_left}
use Rattle.rank.specs.Rank.{Hit}
use Rattle.rank.specs.Match.{Term, Rule, any_list, held_from, matches, hit_at, hits_of, within}
use Rattle.rank.specs.Run as run
use Rattle.rank.specs.Run.{head_doc, least_of, drop_below, skip_term, size, run_hits, run_left}
use Rattle.rank.proofs.Matches.{AllDocs, matches_asc, matches-all, hits-rising, hits-agree, inside-last}
use Rattle.rank.proofs.Withins.{rising-above, within-split, within-whole}
use Rattle.rank.proofs.Hits.{Rises, run-within, left-within, skip_rises}
use Rattle.prune.specs.Prune.{posts_of}
use Rattle.scan.specs.Heads.{terms}
use Rattle.scan.specs.declared.head.Head.{Head}
use Rattle.exhaustive.specs.Merge.{on_shelf, Behinds, AllSettled, wholes, fault_left, horizon_of}
use Rattle.exhaustive.specs.declared.fill.Left.{Left}
use Rattle.exhaustive.proofs.Refills.{stands_some, ended-none}
use Rattle.exhaustive.proofs.Wholes.{chain-rising, past_less, wholes-rise, wholes_low, Pasts, wholes-holds, wholes-score}

-- ---- a run over lists that were not skipped
below-zero : (ps : List Post) → drop_below 0 ps ≡ ps
below-zero [] = refl
below-zero (p ∷ ps) = rw (le-ltb p.doc 0 (omega arith))

skip_zero : (ts : List Term) → map (skip_term 0) ts ≡ ts
skip_zero [] = refl
skip_zero (t ∷ ts) = rw (below-zero t.posts, skip_zero ts)

run-zero : (m : Rule) (last : ℕ) (ts : List Term) → last < run.none → Rises 0 ts → run_hits m (size ts) last ts ≡ within 0 last (hits_of m ts)
run-zero m last ts l a = rw (skip_zero ts) at (run-within m 0 last ts l a)

pub left-zero : (last : ℕ) (ts : List Term) → last < run.none → run_left (size ts) last ts ≡ map (skip_term (suc last)) ts
left-zero last ts l = rw (skip_zero ts) at (left-within 0 last ts l (omega arith))

rises-pos : (ts : List Term) → Rises 0 ts → AllDocs (λ d. 0 < d) ts
rises-pos [] a = tt
rises-pos (t ∷ ts) a = (asc_all 0 0 (docs t.posts) (omega arith) a.0, rises-pos ts a.1)

all-hits : (m : Rule) (ts : List Term) → AllDocs (λ d. d ≤ max_docid) ts → within 0 max_docid (hits_of m ts) ≡ hits_of m ts
all-hits m ts a =
    within-whole 0 max_docid (hits_of m ts)
    (All_image (hit_at ts) (λ (h : Hit). (0 ≤ h.doc) × (h.doc ≤ max_docid)) (matches m ts) (All_map {P = λ d. d ≤ max_docid} {Q = λ d. (0 ≤ d) × (d ≤ max_docid)} (matches m ts) (λ d l. (omega arith, l)) (matches-all m (λ d. d ≤ max_docid) ts a)))

skip_docs : (P : ℕ → Type 0) (e : ℕ) (ps : List Post) → All P (docs ps) → All P (docs (drop_below e ps))
skip_docs P e [] a = tt
skip_docs P e (p ∷ ps) a = split (ltb p.doc e) (λ q. rw q (skip_docs P e ps a.1)) (λ q. rw q a)

skip_low : (P : ℕ → Type 0) (e : ℕ) (ts : List Term) → AllDocs P ts → AllDocs P (map (skip_term e) ts)
skip_low P e [] a = tt
skip_low P e (t ∷ ts) a = (skip_docs P e t.posts a.0, skip_low P e ts a.1)

-- ---- THE TURN: the hits of all are those of the run, then those of what is left
module _ (s : List ℕ) (bytes : Bytes s) (last : ℕ) (l : last < run.none) (us : List Term) (ls : List Left) (n : length us ≤ length ls) (w : Behinds s us ls) (p : Pasts s last ls) (r : Rises 0 us) where
  pub hits-split : hits_of any_list (wholes s us ls) ≡ run_hits any_list (size us) last us ++ hits_of any_list (map (skip_term (suc last)) (wholes s us ls))
  hits-split =
      let W = wholes s us ls in
      let X = map (skip_term (suc last)) W in
      let rise : Rises 0 W = wholes-rise s us ls w in
      let low : AllDocs (λ d. d ≤ max_docid) W = wholes_low s bytes us ls w in
      let pos : AllDocs (λ d. 0 < d) W = rises-pos W rise in
      let less : suc last - 1 ≡ last = omega arith in
      let cut : within 0 last (hits_of any_list W) ++ within (suc last) max_docid (hits_of any_list W) ≡ within 0 max_docid (hits_of any_list W) =
      rw less at (within-split 0 0 (suc last) max_docid (hits_of any_list W) (omega arith) (omega arith) (omega arith) (hits-rising 0 W (matches any_list W) (matches_asc any_list W pos))) in
      let front : within 0 last (hits_of any_list W) ≡ run_hits any_list (size us) last us =
      hits-agree any_list W us 0 last pos (rises-pos us r) (λ d i. (wholes-holds s last d us ls (inside-last 0 last d i) n p, wholes-score s last d us ls (inside-last 0 last d i) n p))
      ∙ sym (run-zero any_list last us l r) in
      let back : within (suc last) max_docid (hits_of any_list W) ≡ hits_of any_list X =
      sym (run-within any_list (suc last) max_docid W (omega arith) rise)
      ∙ run-zero any_list max_docid X (omega arith) (skip_rises 0 (suc last) W rise)
      ∙ all-hits any_list X (skip_low (λ d. d ≤ max_docid) (suc last) W low) in
      sym (all-hits any_list W low) ∙ sym cut ∙ rw (front, back)

-- ---- what the lists have after it
rising-below : (n e : ℕ) (ps : List Post) → Rising n ps → Rising n (drop_below e ps)
rising-below n e [] r = tt
rising-below n e (p ∷ ps) r = split (ltb p.doc e) (λ q. rw q (less n p.doc (drop_below e ps) (omega arith) (rising-below p.doc e ps r.1))) (λ q. rw q r)
  where
    less : (m k : ℕ) (qs : List Post) → m ≤ k → Rising k qs → Rising m qs
    less m k [] x y = tt
    less m k (q ∷ qs) x y = (omega arith, y.1)

upto-below : (P : Post → Type 0) (e : ℕ) (ps : List Post) → All P ps → All P (drop_below e ps)
upto-below P e [] a = tt
upto-below P e (p ∷ ps) a = split (ltb p.doc e) (λ q. rw q (upto-below P e ps a.1)) (λ q. rw q a)

pub behind_skip : (s : List ℕ) (e : ℕ) (us : List Term) (ls : List Left) → Behinds s us ls → Behinds s (map (skip_term e) us) ls
behind_skip s e [] ls w = tt
behind_skip s e (u ∷ us) [] w = tt
behind_skip s e (u ∷ us) (l ∷ ls) w =
    let b = w.0 in (
      record { rising = rising-below 0 e u.posts b.rising; upto = upto-below (λ (p : Post). p.doc ≤ l.top) e u.posts b.upto; below = b.below; rests = b.rests; chain = b.chain },
      behind_skip s e us ls w.1,
    )

-- ---- the horizon
size_le : (e : ℕ) (ps : List Post) → length (drop_below e ps) ≤ length ps
size_le e [] = omega arith
size_le e (p ∷ ps) = split (ltb p.doc e) (λ q. rw q (omega (arith, size_le e ps))) (λ q. rw q (omega arith))

skip_le : (e : ℕ) (us : List Term) → size (map (skip_term e) us) ≤ size us
skip_le e [] = omega arith
skip_le e (u ∷ us) = omega (arith, size_le e u.posts, skip_le e us)

post_less : (last : ℕ) (ps : List Post) → last < run.none → head_doc ps ≤ last → length (drop_below (suc last) ps) < length ps
post_less last [] l h = absurd (omega arith)
post_less last (p ∷ ps) l h = rw (lt-ltb p.doc (suc last) (omega arith)) (omega (arith, size_le (suc last) ps))

pub skip_less : (last : ℕ) (us : List Term) → last < run.none → least_of us ≤ last → size (map (skip_term (suc last)) us) < size us
skip_less last [] l h = absurd (omega arith)
skip_less last (u ∷ us) l h =
    split (leb (head_doc u.posts) last)
    (λ e. omega (arith, post_less last u.posts l (leb-true _ _ e), skip_le (suc last) us))
    (λ e. omega (arith, size_le (suc last) u.posts, skip_less last us l (omega (arith, leb-false (head_doc u.posts) last e))))

module _ (s ds ss : List ℕ) where
  -- it is no later than the greatest docid of a list's block
  pub horizon-past-all : (last : ℕ) (hs : List Head) (ls : List Left) → length hs ≡ length ls → last ≤ horizon_of hs ls → Behinds s (terms ds ss hs) ls → AllSettled s (terms ds ss hs) ls → Pasts s last ls
  horizon-past-all last [] [] n l w z = tt
  horizon-past-all last [] (y ∷ ls) n l w z = absurd (omega arith)
  horizon-past-all last (h ∷ hs) [] n l w z = absurd (omega arith)
  horizon-past-all last (h ∷ hs) (y ∷ ls) n l w z =
      split (ltb h.doc run.none)
      (λ e. let m : last ≤ min (horizon_of hs ls) y.top = rw e at l in
      let up = rising-above y.top (posts_of (on_shelf s y.blocks)) (chain-rising y.top (blocks_left s y.blocks) w.0.chain) in
      (past_less last y.top (posts_of (on_shelf s y.blocks)) (omega arith) up, horizon-past-all last hs ls (omega arith) (omega arith) w.1 z.1))
      (λ e. let m : last ≤ horizon_of hs ls = rw e at l in
      let g : blocks_left s y.blocks ≡ [] = z.0 (ended-none ds ss h (ltb-false _ _ e)) in
      (rw g tt, horizon-past-all last hs ls (omega arith) m w.1 z.1))

  -- some list stands at a docid up to it
  pub horizon_stands : (hs : List Head) (ls : List Left) → length hs ≡ length ls → horizon_of hs ls < run.none → Behinds s (terms ds ss hs) ls → least_of (terms ds ss hs) ≤ horizon_of hs ls
  horizon_stands [] [] n l w = absurd (omega arith)
  horizon_stands [] (y ∷ ls) n l w = absurd (omega arith)
  horizon_stands (h ∷ hs) [] n l w = absurd (omega arith)
  horizon_stands (h ∷ hs) (y ∷ ls) n l w =
      split (ltb h.doc run.none)
      (λ e. let p = stands_some ds ss h (ltb-true _ _ e) in
      let first : h.doc ≤ y.top = (rw p at w.0.upto).0 in
      let m : min (horizon_of hs ls) y.top < run.none = rw e at l in
      split (leb y.top (horizon_of hs ls))
      (λ q. let k : y.top ≤ horizon_of hs ls = leb-true _ _ q in rw (e, p) (omega arith))
      (λ q. let k : horizon_of hs ls < y.top = leb-false _ _ q in let ih = horizon_stands hs ls (omega arith) (omega arith) w.1 in rw (e, p) (omega arith)))
      (λ e. let m : horizon_of hs ls < run.none = rw e at l in let ih = horizon_stands hs ls (omega arith) m w.1 in rw e (omega arith))

  -- past all docids: no list has anything
  pub horizon-ended : (hs : List Head) (ls : List Left) → length hs ≡ length ls → run.none ≤ horizon_of hs ls → Behinds s (terms ds ss hs) ls → AllSettled s (terms ds ss hs) ls
      → (held_from [] (wholes s (terms ds ss hs) ls) ≡ []) × (fault_left s ls ≡ none)
  horizon-ended [] [] n l w z = (refl, refl)
  horizon-ended [] (y ∷ ls) n l w z = absurd (omega arith)
  horizon-ended (h ∷ hs) [] n l w z = absurd (omega arith)
  horizon-ended (h ∷ hs) (y ∷ ls) n l w z =
      split (ltb h.doc run.none)
      (λ e. let m : run.none ≤ min (horizon_of hs ls) y.top = rw e at l in absurd (omega (arith, w.0.below)))
      (λ e. let m : run.none ≤ horizon_of hs ls = rw e at l in
      let p = ended-none ds ss h (ltb-false _ _ e) in
      let g : blocks_left s y.blocks ≡ [] = z.0 p in
      let ih = horizon-ended hs ls (omega arith) m w.1 z.1 in
      (rw (p, g) ih.0, rw g ih.1))
