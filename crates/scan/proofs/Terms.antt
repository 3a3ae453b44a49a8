-- What the heads still have, as lists of postings: the two passes, the advance and the skip, said of those lists. Assumes nothing.
use Prim.Native.Nat.{ℕ, zero, suc, ◌+◌, ◌≤◌, ◌<◌}
use mathlib.Core.Path.{◌≡◌, refl, sym, ap, ◌∙◌}
use mathlib.Core.List.{List, [], ◌∷◌, ◌++◌, map}
use native.Mathlib.Omega.{arith}
use native.Mathlib.Nat.{mul-zero}
use native.Mathlib.Numerals.{add-one}
use lib.ListN.{length, take, drop, get_or, set, length-set, length-map, length-take, drop_of_length-le}
use lib.Seq.{slice, slice-cons}
use lib.Dec.{eqb, ltb}
use borrow.Author.Tests.{ne_eqb, eqb-true, ltb-true, ltb-false, lt-ltb, le-ltb}
use Rattle.model.specs.Limits.{max_terms}
use Rattle.model.specs.Runs.{All}
use Rattle.model.specs.Post.{Post, post}
use Rattle.model.proofs.Lists.{split, map-turn, map-here, map-past, set-map, get_d_map}
use Rattle.rank.specs.Match.{Term}
use Rattle.rank.specs.Run.{none, least_of, sum_of, drop_term, skip_term}
use Rattle.scan.specs.Heads.{blank, least, sum_at, between, InBuffers, OwnPart, OwnParts, next_head, step_if, head_posts, term_of, terms, move_on, skip_head, Skipped}
use Rattle.scan.specs.declared.head.Head.{Head}
use Rattle.scan.proofs.Heads.{least-top, All_set, own-set}

-- ---- a part of the buffers, posting by posting
slice-none : (f t : ℕ) (l : List ℕ) → t ≤ f → slice f t l ≡ []
slice-none f t l h =
    let k : length (take t l) ≤ f = omega (arith, length-take t l) in
    drop_of_length-le (take t l) k

pub between_none : (ds ss : List ℕ) (f t : ℕ) → t ≤ f → between ds ss f t ≡ []
unfolding between
between_none ds ss f t h = rw (slice-none f t ds h)

pub between_cons : (ds ss : List ℕ) (f t : ℕ) → f < t → t ≤ length ds → t ≤ length ss → between ds ss f t ≡ post (get_or ds f 0) (get_or ss f 0) ∷ between ds ss (f + 1) t
unfolding between
between_cons ds ss f t l h k = rw (add-one f, slice-cons f t ds 0 l h, slice-cons f t ss 0 l k)

module _ (ds ss : List ℕ) where
  -- ---- the two passes
  pub least-terms : (hs : List Head) → least hs ≡ least_of (terms ds ss hs)
  unfolding head_posts
  least-terms [] = refl
  least-terms (h ∷ hs) =
      split (ltb h.doc none)
      (λ e. rw (e, least-terms hs))
      (λ e. rw e (omega (arith, least-terms hs, least-top hs, ltb-false h.doc none e)))

  pub sum-terms : (d : ℕ) (hs : List Head) → d < none → sum_at d hs ≡ sum_of d (terms ds ss hs)
  unfolding head_posts
  sum-terms d [] l = refl
  sum-terms d (h ∷ hs) l =
      split (ltb h.doc none)
      (λ e. split (eqb h.doc d) (λ f. rw (e, f, sum-terms d hs l)) (λ f. rw (e, f, sum-terms d hs l, mul-zero h.weight)))
      (λ e. rw (e, ne_eqb h.doc d (λ q. omega (arith, ltb-false h.doc none e)), sum-terms d hs l, mul-zero h.weight))

  -- ---- the advance
  first_below : (h : Head) → InBuffers ds ss h → h.at < h.end → (get_or ds h.at 0 < none) × All (λ d. d < none) (slice (h.at + 1) h.end ds)
  first_below h i l = rw (add-one h.at) (rw (slice-cons h.at h.end ds 0 l (omega (arith, i.docids, i.inside))) at i.below)

  pub next-term : (h : Head) → InBuffers ds ss h → term_of ds ss (next_head ds ss h) ≡ record { weight = h.weight; posts = between ds ss h.at h.end }
  unfolding next_head head_posts
  next-term h i =
      split (ltb h.at h.end)
      (λ e. let l : h.at < h.end = ltb-true _ _ e in
      rw (e, lt-ltb (get_or ds h.at 0) none (first_below h i l).0, between_cons ds ss h.at h.end l (omega (arith, i.docids, i.inside)) (omega (arith, i.scored, i.inside))))
      (λ e. rw (e, between_none ds ss h.at h.end (ltb-false _ _ e)))

  pub next-stays : (h : Head) → InBuffers ds ss h → InBuffers ds ss (next_head ds ss h)
  unfolding next_head
  next-stays h i =
      split (ltb h.at h.end)
      (λ e. rw e (record { docids = i.docids; scored = i.scored; inside = i.inside; below = (first_below h i (ltb-true _ _ e)).1 }))
      (λ e. rw e (record { docids = i.docids; scored = i.scored; inside = i.inside; below = i.below }))

  term-step : (d : ℕ) (h : Head) → d < none → InBuffers ds ss h → term_of ds ss (step_if ds ss d h) ≡ drop_term d (term_of ds ss h)
  unfolding head_posts
  term-step d h l i =
      split (eqb h.doc d)
      (λ e. let q : h.doc ≡ d = eqb-true _ _ e in rw e (next-term h i ∙ rw (lt-ltb h.doc none (omega arith), e)))
      (λ e. split (ltb h.doc none) (λ f. rw (e, f, e)) (λ f. rw (e, f)))

  pub terms-step : (d : ℕ) (hs : List Head) → d < none → All (InBuffers ds ss) hs → terms ds ss (map (step_if ds ss d) hs) ≡ map (drop_term d) (terms ds ss hs)
  terms-step d [] l i = refl
  terms-step d (h ∷ hs) l i = cc (term-step d h l i.0, terms-step d hs l i.1)

  pub step-inside : (d : ℕ) (hs : List Head) → All (InBuffers ds ss) hs → All (InBuffers ds ss) (map (step_if ds ss d) hs)
  step-inside d [] a = tt
  step-inside d (h ∷ hs) a = (split (eqb h.doc d) (λ e. rw e (next-stays h a.0)) (λ e. rw e a.0), step-inside d hs a.1)

  -- a head moves on within its part
  pub next-own : (t : ℕ) (h : Head) → OwnPart t h → OwnPart t (next_head ds ss h)
  unfolding next_head
  next-own t h o =
      split (ltb h.at h.end)
      (λ e. rw e (record { from = omega (arith, o.from); upto = o.upto }))
      (λ e. rw e (record { from = o.from; upto = o.upto }))

  pub step-own : (t d : ℕ) (hs : List Head) → OwnParts t hs → OwnParts t (map (step_if ds ss d) hs)
  step-own t d [] o = tt
  step-own t d (h ∷ hs) o = (split (eqb h.doc d) (λ e. rw e (next-own t h o.0)) (λ e. rw e o.0), step-own (suc t) d hs o.1)

  -- ---- the skip
  module _ (first : ℕ) (h : Head) where
    there : h.doc < none → head_posts ds ss h ≡ post h.doc h.score ∷ between ds ss h.at h.end
    unfolding head_posts
    there l = rw (lt-ltb h.doc none l)

    pub skip_turn : InBuffers ds ss h → h.doc < first → first ≤ none → skip_term first (term_of ds ss (next_head ds ss h)) ≡ skip_term first (term_of ds ss h)
    unfolding head_posts
    skip_turn i l m = ap (skip_term first) (next-term h i) ∙ rw (lt-ltb h.doc none (omega arith), lt-ltb h.doc first l)

    pub skip_less : InBuffers ds ss h → h.doc < none → length (head_posts ds ss (next_head ds ss h)) < length (head_posts ds ss h)
    skip_less i l =
        let e : head_posts ds ss (next_head ds ss h) ≡ between ds ss h.at h.end = ap {B = List Post} (λ t. t.posts) (next-term h i) in
        rw (e, there l) (omega arith)

    pub skip_stop : first ≤ h.doc → term_of ds ss h ≡ skip_term first (term_of ds ss h)
    unfolding head_posts
    skip_stop l = split (ltb h.doc none) (λ e. rw (e, le-ltb h.doc first l)) (λ e. rw e)

    -- the same of the head itself
    pub head-turn : InBuffers ds ss h → h.doc < first → first ≤ none → skip_head ds ss first (next_head ds ss h) ≡ skip_head ds ss first h
    unfolding skip_head
    head-turn i l m =
        let e : head_posts ds ss (next_head ds ss h) ≡ between ds ss h.at h.end = ap {B = List Post} (λ t. t.posts) (next-term h i) in
        rw (e, there (omega arith), lt-ltb h.doc first l)

    pub head-stop : first ≤ h.doc → skip_head ds ss first h ≡ h
    unfolding skip_head
    head-stop l = stop (length (head_posts ds ss h))
      where
        stop : (n : ℕ) → move_on ds ss n first h ≡ h
        stop zero = refl
        stop (suc n) = rw (le-ltb h.doc first l)

  -- ---- the skip, of all heads
  head_step : (first d : ℕ) (h : Head) → d < first → first ≤ none → InBuffers ds ss h → skip_head ds ss first (step_if ds ss d h) ≡ skip_head ds ss first h
  head_step first d h l m i = split (eqb h.doc d) (λ e. rw e (head-turn first h i (omega (arith, eqb-true h.doc d e)) m)) (λ e. rw e)

  pub heads-step : (first d : ℕ) (hs : List Head) → d < first → first ≤ none → All (InBuffers ds ss) hs → map (skip_head ds ss first) (map (step_if ds ss d) hs) ≡ map (skip_head ds ss first) hs
  heads-step first d [] l m i = refl
  heads-step first d (h ∷ hs) l m i = cc (head_step first d h l m i.0, heads-step first d hs l m i.1)

  pub heads-stop : (first : ℕ) (hs : List Head) → first ≤ least hs → map (skip_head ds ss first) hs ≡ hs
  heads-stop first [] l = refl
  heads-stop first (h ∷ hs) l = cc (head-stop first h (omega arith), heads-stop first hs (omega arith))

-- One turn of `skip_all`
pub record Skipping (ds ss : List ℕ) (first : ℕ) (heads hs : List Head) (i : ℕ) : Type 0 where
  pub i_in : i ≤ max_terms
  pub long : length hs ≡ max_terms
  pub inside : All (InBuffers ds ss) hs
  pub parts : OwnParts 0 hs
  pub moved : hs ≡ map (skip_head ds ss first) (take i heads) ++ drop i heads
  pub same : terms ds ss hs ≡ map (skip_term first) (take i (terms ds ss heads)) ++ drop i (terms ds ss heads)

module _ (ds ss : List ℕ) (first : ℕ) (heads hs : List Head) (i : ℕ) (w : Skipping ds ss first heads hs i) (n : length heads ≡ max_terms) where
  terms-long : length (terms ds ss heads) ≡ max_terms
  terms-long = length-map heads (term_of ds ss) ∙ n

  pub skipping_turn : (h : Head) → i < max_terms → Skipped ds ss first (get_or hs i blank) h → Skipping ds ss first heads (set hs i h) (i + 1)
  skipping_turn h l s =
      let z = term_of ds ss blank in
      let here : term_of ds ss (get_or hs i blank) ≡ get_or (terms ds ss heads) i z =
      sym (get_d_map (term_of ds ss) blank hs i) ∙ ap {B = Term} (λ t. get_or t i z) w.same ∙ map-here z (skip_term first) (terms ds ss heads) i (omega (arith, terms-long)) in
      let head : get_or hs i blank ≡ get_or heads i blank = ap {B = Head} (λ x. get_or x i blank) w.moved ∙ map-here blank (skip_head ds ss first) heads i (omega (arith, n)) in
      record {
        i_in = omega arith;
        long = length-set hs i h ∙ w.long;
        inside = All_set (InBuffers ds ss) hs i h w.inside s.inside;
        parts = own-set 0 hs i h s.parts w.parts;
        moved =
            ap {B = List Head} (λ x. set hs i x) (s.moved ∙ ap (skip_head ds ss first) head)
            ∙ ap {B = List Head} (λ x. set x i (skip_head ds ss first (get_or heads i blank))) w.moved
            ∙ map-turn blank (skip_head ds ss first) heads i (omega (arith, n));
        same =
            set-map (term_of ds ss) hs i h
            ∙ ap {B = List Term} (λ t. set (terms ds ss hs) i t) (s.same ∙ ap (skip_term first) here)
            ∙ ap {B = List Term} (λ ts. set ts i (skip_term first (get_or (terms ds ss heads) i z))) w.same
            ∙ map-turn z (skip_term first) (terms ds ss heads) i (omega (arith, terms-long));
      }

  pub skipping_done : max_terms ≤ i → terms ds ss hs ≡ map (skip_term first) (terms ds ss heads)
  skipping_done l = w.same ∙ map-past (term_of ds ss blank) (skip_term first) (terms ds ss heads) i (omega (arith, terms-long))

  pub skipping_moved : max_terms ≤ i → hs ≡ map (skip_head ds ss first) heads
  skipping_moved l = w.moved ∙ map-past blank (skip_head ds ss first) heads i (omega (arith, n))
