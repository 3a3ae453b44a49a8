-- A run's hits are the matches of the interval, rising, each with its score; and what it leaves are the postings past it. Assumes nothing.
use Prim.Native.Nat.{ℕ, zero, suc, ◌≤◌, ◌<◌}
use mathlib.Core.Path.{◌≡◌, refl, sym, ap, ◌∙◌}
use mathlib.Core.Bool.{Bool, true, false, ◌&&◌}
use mathlib.Core.List.{List, [], ◌∷◌, map}
use native.Mathlib.Omega.{arith}
use lib.Dec.{eqb, ltb, leb}
use borrow.Author.Tests.{eq-eqb, ne_eqb, eqb-true, eqb-false, ltb-true, ltb-false, leb-true, leb-false, lt-ltb, le-ltb, le-leb}
use Rattle.model.specs.Post.{Post, docs}
use Rattle.model.specs.Runs.{All, has, filter, Asc}
use Rattle.model.proofs.Lists.{split, and-false}
use Rattle.model.proofs.Runs.{asc_ext, asc_low, asc_less, asc_all, filter_asc, filter-has}
use Rattle.rank.specs.Rank.{Hit, keeps}
use Rattle.rank.specs.Match.{Term, Rule, some, any_list, stored, score_of, holds, matches, hit_at, hits_of, inside, within}
use Rattle.rank.specs.Run.{none, head_doc, head_score, drop_at, least_of, sum_of, stand_at, drop_term, pass, size, run_docs, run_hits, run_left, drop_below, skip_term}
use Rattle.rank.proofs.Matches.{AllDocs, matches_asc, matches-has, within-hits}
use Rattle.rank.proofs.Runs.{drop_less, empty_least, stand-least}

-- every list's docids rise, from above n
abbrev pub Rises : ℕ → List Term → Type 0
Rises n ts = All (λ t. Asc n (docs t.posts)) ts

-- The least docid
head-above : (n : ℕ) (ps : List Post) → n < none → Asc n (docs ps) → n < head_doc ps
head-above n [] l a = l
head-above n (p ∷ ps) l a = a.0

least_above : (n : ℕ) (ts : List Term) → n < none → Rises n ts → n < least_of ts
least_above n [] l a = l
least_above n (t ∷ ts) l a = omega (arith, head-above n t.posts l a.0, least_above n ts l a.1)

-- up to its head's docid a list holds just that
head-holds : (n d : ℕ) (ps : List Post) → Asc n (docs ps) → d ≤ head_doc ps → d < none → has d (docs ps) ≡ eqb (head_doc ps) d
head-holds n d [] a l m = sym (ne_eqb none d (omega arith))
head-holds n d (p ∷ ps) a l m =
    split (eqb p.doc d)
    (λ e. rw (e, eq-eqb d p.doc (sym (eqb-true _ _ e))))
    (λ e. rw (e, ne_eqb d p.doc (λ q. eqb-false p.doc d e (sym q))) (asc_low p.doc d (docs ps) l a.1))

-- so the lists that stand at a docid up to the least are those that hold it
pub stand-holds : (n d : ℕ) (ts : List Term) → Rises n ts → d ≤ least_of ts → d < none → stand_at d ts ≡ holds ts d
stand-holds n d [] a l m = refl
stand-holds n d (t ∷ ts) a l m = cc (head-holds n d t.posts a.0 (omega arith) m, stand-holds n d ts a.1 (omega arith) m)

held_low : (n d : ℕ) (ts : List Term) → Rises n ts → d < least_of ts → d < none → some (holds ts d) ≡ false
held_low n d [] a l m = refl
held_low n d (t ∷ ts) a l m =
    rw (head-holds n d t.posts a.0 (omega arith) m, ne_eqb (head_doc t.posts) d (omega arith)) (held_low n d ts a.1 (omega arith) m)

-- The postings at a docid dropped
drop_asc : (n d : ℕ) (ps : List Post) → Asc n (docs ps) → d ≤ head_doc ps → Asc d (docs (drop_at d ps))
drop_asc n d [] a l = tt
drop_asc n d (p ∷ ps) a l =
    split (eqb p.doc d)
    (λ e. rw e (rw (eqb-true p.doc d e) at a.1))
    (λ e. rw e (omega (arith, eqb-false p.doc d e), a.1))

drop-rises : (n d : ℕ) (ts : List Term) → Rises n ts → d ≤ least_of ts → Rises d (map (drop_term d) ts)
drop-rises n d [] a l = tt
drop-rises n d (t ∷ ts) a l = (drop_asc n d t.posts a.0 (omega arith), drop-rises n d ts a.1 (omega arith))

drop-has : (d e : ℕ) (ps : List Post) → (e ≡ d → ⊥) → has e (docs (drop_at d ps)) ≡ has e (docs ps)
drop-has d e [] f = refl
drop-has d e (p ∷ ps) f = split (eqb p.doc d) (λ q. rw (q, ne_eqb e p.doc (λ r. f (r ∙ eqb-true _ _ q)))) (λ q. rw q)

drop-holds : (d e : ℕ) (ts : List Term) → (e ≡ d → ⊥) → holds (map (drop_term d) ts) e ≡ holds ts e
drop-holds d e [] f = refl
drop-holds d e (t ∷ ts) f = cc (drop-has d e t.posts f, drop-holds d e ts f)

drop-stored : (d e : ℕ) (ps : List Post) → (e ≡ d → ⊥) → stored (drop_at d ps) e ≡ stored ps e
drop-stored d e [] f = refl
drop-stored d e (p ∷ ps) f = split (eqb p.doc d) (λ q. rw (q, ne_eqb e p.doc (λ r. f (r ∙ eqb-true _ _ q)))) (λ q. rw q)

drop-score : (d e : ℕ) (ts : List Term) → (e ≡ d → ⊥) → score_of (map (drop_term d) ts) e ≡ score_of ts e
drop-score d e [] f = refl
drop-score d e (t ∷ ts) f = cc (drop-stored d e t.posts f, drop-score d e ts f)

-- The sum over the heads at the least docid is its score
stored_asc : (n d : ℕ) (ps : List Post) → d ≤ n → Asc n (docs ps) → stored ps d ≡ 0
stored_asc n d [] l a = refl
stored_asc n d (p ∷ ps) l a = rw (ne_eqb d p.doc (omega arith)) (stored_asc p.doc d ps (omega arith) a.1)

head-stored : (n d : ℕ) (ps : List Post) → Asc n (docs ps) → d ≤ head_doc ps → head_score d ps ≡ stored ps d
head-stored n d [] a l = refl
head-stored n d (p ∷ ps) a l =
    split (eqb p.doc d)
    (λ e. rw (e, eq-eqb d p.doc (sym (eqb-true _ _ e))))
    (λ e. rw (e, ne_eqb d p.doc (λ q. eqb-false p.doc d e (sym q))) (sym (stored_asc p.doc d ps l a.1)))

sum-score : (n d : ℕ) (ts : List Term) → Rises n ts → d ≤ least_of ts → sum_of d ts ≡ score_of ts d
sum-score n d [] a l = refl
sum-score n d (t ∷ ts) a l = cc (head-stored n d t.posts a.0 (omega arith), sum-score n d ts a.1 (omega arith))

module _ (m : Rule) where
  -- The run's docids
  run_asc : (f n last : ℕ) (ts : List Term) → last < none → n < none → Rises n ts → Asc n (run_docs m f last ts)
  run_asc zero n last ts l z a = tt
  run_asc (suc f) n last ts l z a =
      split (ltb last (least_of ts))
      (λ e. rw e tt)
      (λ e. let above : n < least_of ts = least_above n ts z a in
      let more : Asc (least_of ts) (run_docs m f last (pass ts)) = run_asc f (least_of ts) last (pass ts) l (omega (arith, ltb-false last (least_of ts) e)) (drop-rises n (least_of ts) ts a (omega arith)) in
      split (m (stand_at (least_of ts) ts) (least_of ts))
      (λ t. rw (e, t) (above, more))
      (λ t. rw (e, t) (asc_less (least_of ts) n (run_docs m f last (pass ts)) (omega arith) more)))

  abbrev counts : List Term → ℕ → Bool
  counts ts e = m (holds ts e) e && some (holds ts e)

  none_low : (n last e : ℕ) (ts : List Term) → last < none → Rises n ts → last < least_of ts → false ≡ (leb e last && counts ts e)
  none_low n last e ts z a l =
      split (leb e last)
      (λ q. let h : some (holds ts e) ≡ false = held_low n e ts a (omega (arith, leb-true e last q)) (omega (arith, leb-true e last q)) in
      rw (q, h) (sym (and-false (m (holds ts e) e))))
      (λ q. rw q)

  run-has : (f n last : ℕ) (ts : List Term) (e : ℕ) → last < none → size ts ≤ f → Rises n ts → has e (run_docs m f last ts) ≡ (leb e last && counts ts e)
  run-has zero n last ts e l s a = none_low n last e ts l a (omega (arith, empty_least ts s))
  run-has (suc f) n last ts e l s a =
      split (ltb last (least_of ts))
      (λ q. rw q (none_low n last e ts l a (ltb-true _ _ q)))
      (λ q. let below : least_of ts ≤ last = ltb-false _ _ q in
      let less : size (pass ts) < size ts = drop_less (least_of ts) ts refl (omega arith) in
      let up : Rises (least_of ts) (pass ts) = drop-rises n (least_of ts) ts a (omega arith) in
      let row : stand_at (least_of ts) ts ≡ holds ts (least_of ts) = stand-holds n (least_of ts) ts a (omega arith) (omega arith) in
      let held : some (holds ts (least_of ts)) ≡ true = rw row at (stand-least (least_of ts) ts refl (omega arith)) in
      split (eqb e (least_of ts))
      (λ r. let same : e ≡ least_of ts = eqb-true _ _ r in
      let past : has e (run_docs m f last (pass ts)) ≡ false = asc_low (least_of ts) e (run_docs m f last (pass ts)) (omega arith) (run_asc f (least_of ts) last (pass ts) l (omega arith) up) in
      let worth : (leb e last && counts ts e) ≡ m (stand_at (least_of ts) ts) (least_of ts) = rw (same, le-leb (least_of ts) last below, held, row) (and_yes (m (holds ts (least_of ts)) (least_of ts))) in
      rw worth (split (m (stand_at (least_of ts) ts) (least_of ts)) (λ t. rw (q, t, r)) (λ t. rw (q, t) past)))
      (λ r. let rest : has e (run_docs m f last (pass ts)) ≡ (leb e last && counts ts e) =
      run-has f (least_of ts) last (pass ts) e l (omega arith) up ∙ rw (drop-holds (least_of ts) e ts (eqb-false e (least_of ts) r)) in
      split (m (stand_at (least_of ts) ts) (least_of ts)) (λ t. rw (q, t, r) rest) (λ t. rw (q, t) rest)))
    where
      and_yes : (b : Bool) → (b && true) ≡ b
      and_yes true = refl
      and_yes false = refl

  map_same : (d n : ℕ) (ts : List Term) (ds : List ℕ) → d ≤ n → Asc n ds → map (hit_at (map (drop_term d) ts)) ds ≡ map (hit_at ts) ds
  map_same d n ts [] l a = refl
  map_same d n ts (e ∷ ds) l a = cc (drop-score d e ts (omega arith), map_same d e ts ds (omega arith) a.1)

  run-hits : (f n last : ℕ) (ts : List Term) → last < none → n < none → Rises n ts → run_hits m f last ts ≡ map (hit_at ts) (run_docs m f last ts)
  run-hits zero n last ts l z a = refl
  run-hits (suc f) n last ts l z a =
      split (ltb last (least_of ts))
      (λ e. rw e)
      (λ e. let below : least_of ts < none = omega (arith, ltb-false last (least_of ts) e) in
      let up : Rises (least_of ts) (pass ts) = drop-rises n (least_of ts) ts a (omega arith) in
      let rest : run_hits m f last (pass ts) ≡ map (hit_at ts) (run_docs m f last (pass ts)) =
      run-hits f (least_of ts) last (pass ts) l below up ∙ map_same (least_of ts) (least_of ts) ts (run_docs m f last (pass ts)) (omega arith) (run_asc f (least_of ts) last (pass ts) l below up) in
      split (m (stand_at (least_of ts) ts) (least_of ts))
      (λ t. rw (e, t) (cc (sum-score n (least_of ts) ts a (omega arith), rest)))
      (λ t. rw (e, t) rest))

-- The lists from a docid on
asc_pos : (n : ℕ) (ts : List Term) → Rises n ts → AllDocs (λ d. 0 < d) ts
asc_pos n [] a = tt
asc_pos n (t ∷ ts) a = (asc_all n 0 (docs t.posts) (omega arith) a.0, asc_pos n ts a.1)

skip_asc : (n f : ℕ) (ps : List Post) → Asc n (docs ps) → Asc n (docs (drop_below f ps))
skip_asc n f [] a = tt
skip_asc n f (p ∷ ps) a =
    split (ltb p.doc f)
    (λ e. rw e (asc_less p.doc n (docs (drop_below f ps)) (omega arith) (skip_asc p.doc f ps a.1)))
    (λ e. rw e a)

pub skip_rises : (n f : ℕ) (ts : List Term) → Rises n ts → Rises n (map (skip_term f) ts)
skip_rises n f [] a = tt
skip_rises n f (t ∷ ts) a = (skip_asc n f t.posts a.0, skip_rises n f ts a.1)

skip_has : (n f e : ℕ) (ps : List Post) → Asc n (docs ps) → f ≤ e → has e (docs (drop_below f ps)) ≡ has e (docs ps)
skip_has n f e [] a l = refl
skip_has n f e (p ∷ ps) a l =
    split (ltb p.doc f)
    (λ q. rw (q, ne_eqb e p.doc (omega (arith, ltb-true p.doc f q))) (skip_has p.doc f e ps a.1 l))
    (λ q. rw q)

skip_holds : (n f e : ℕ) (ts : List Term) → Rises n ts → f ≤ e → holds (map (skip_term f) ts) e ≡ holds ts e
skip_holds n f e [] a l = refl
skip_holds n f e (t ∷ ts) a l = cc (skip_has n f e t.posts a.0 l, skip_holds n f e ts a.1 l)

skip_none : (f e : ℕ) (ps : List Post) (n : ℕ) → Asc n (docs ps) → e < f → has e (docs (drop_below f ps)) ≡ false
skip_none f e [] n a l = refl
skip_none f e (p ∷ ps) n a l =
    split (ltb p.doc f)
    (λ q. rw q (skip_none f e ps p.doc a.1 l))
    (λ q. rw q (asc_low e e (docs (p ∷ ps)) (omega arith) (omega (arith, ltb-false p.doc f q), a.1)))

skip_held : (n f e : ℕ) (ts : List Term) → Rises n ts → e < f → some (holds (map (skip_term f) ts) e) ≡ false
skip_held n f e [] a l = refl
skip_held n f e (t ∷ ts) a l = rw (skip_none f e t.posts n a.0 l) (skip_held n f e ts a.1 l)

skip_stored : (f e : ℕ) (ps : List Post) → f ≤ e → stored (drop_below f ps) e ≡ stored ps e
skip_stored f e [] l = refl
skip_stored f e (p ∷ ps) l = split (ltb p.doc f) (λ q. rw (q, ne_eqb e p.doc (omega (arith, ltb-true p.doc f q))) (skip_stored f e ps l)) (λ q. rw q)

skip_score : (f e : ℕ) (ts : List Term) → f ≤ e → score_of (map (skip_term f) ts) e ≡ score_of ts e
skip_score f e [] l = refl
skip_score f e (t ∷ ts) l = cc (skip_stored f e t.posts l, skip_score f e ts l)

map_skip : (f : ℕ) (ts : List Term) (ds : List ℕ) → All (λ d. f ≤ d) ds → map (hit_at (map (skip_term f) ts)) ds ≡ map (hit_at ts) ds
map_skip f ts [] a = refl
map_skip f ts (e ∷ ds) a = cc (skip_score f e ts a.0, map_skip f ts ds a.1)

only-from : (lo hi : ℕ) (xs : List ℕ) → All (λ d. lo ≤ d) (filter (inside lo hi) xs)
only-from lo hi [] = tt
only-from lo hi (x ∷ xs) =
    split (leb lo x)
    (λ e. split (leb x hi) (λ g. rw (e, g) (leb-true _ _ e, only-from lo hi xs)) (λ g. rw (e, g) (only-from lo hi xs)))
    (λ e. rw e (only-from lo hi xs))

-- THE RUN: up to `last`, over the lists skipped to `first`, it gives just the hits of that interval
pub run-within : (m : Rule) (first last : ℕ) (ts : List Term) → last < none → Rises 0 ts
    → run_hits m (size (map (skip_term first) ts)) last (map (skip_term first) ts) ≡ within first last (hits_of m ts)
run-within m first last ts l a =
    run-hits m (size us) 0 last us l (omega arith) up
    ∙ ap (map (hit_at us)) same
    ∙ map_skip first ts (filter (inside first last) (matches m ts)) (only-from first last (matches m ts))
    ∙ sym (within-hits ts first last (matches m ts))
  where
    us : List Term
    us = map (skip_term first) ts

    up : Rises 0 us
    up = skip_rises 0 first ts a

    agree : (d : ℕ) → (leb d last && counts m us d) ≡ (inside first last d && counts m ts d)
    agree d =
        split (leb first d)
        (λ e. rw (e, skip_holds 0 first d ts a (leb-true _ _ e)))
        (λ e. rw (e, skip_held 0 first d ts a (leb-false _ _ e), and-false (m (holds us d) d)) (and-false (leb d last)))

    same : run_docs m (size us) last us ≡ filter (inside first last) (matches m ts)
    same =
        asc_ext 0 0 (run_docs m (size us) last us) (filter (inside first last) (matches m ts))
        (run_asc m (size us) 0 last us l (omega arith) up)
        (filter_asc (inside first last) 0 (matches m ts) (matches_asc m ts (asc_pos 0 ts a)))
        (λ d. run-has m (size us) 0 last us d l (omega arith) up ∙ agree d ∙ sym (rw (filter-has (inside first last) d (matches m ts), matches-has m ts d)))

-- What it leaves: the postings past `last`
below-stop : (last : ℕ) (ps : List Post) → last < head_doc ps → drop_below (suc last) ps ≡ ps
below-stop last [] l = refl
below-stop last (p ∷ ps) l = rw (le-ltb p.doc (suc last) (omega arith))

skip_stop : (last : ℕ) (ts : List Term) → last < least_of ts → map (skip_term (suc last)) ts ≡ ts
skip_stop last [] l = refl
skip_stop last (t ∷ ts) l = rw (below-stop last t.posts (omega arith), skip_stop last ts (omega arith))

below-drop : (last d : ℕ) (ps : List Post) → d ≤ last → drop_below (suc last) (drop_at d ps) ≡ drop_below (suc last) ps
below-drop last d [] l = refl
below-drop last d (p ∷ ps) l = split (eqb p.doc d) (λ e. rw (e, lt-ltb p.doc (suc last) (omega (arith, eqb-true p.doc d e)))) (λ e. rw e)

skip_drop : (last d : ℕ) (ts : List Term) → d ≤ last → map (skip_term (suc last)) (map (drop_term d) ts) ≡ map (skip_term (suc last)) ts
skip_drop last d [] l = refl
skip_drop last d (t ∷ ts) l = cc (below-drop last d t.posts l, skip_drop last d ts l)

left-past : (f last : ℕ) (ts : List Term) → last < none → size ts ≤ f → run_left f last ts ≡ map (skip_term (suc last)) ts
left-past zero last ts l s = sym (skip_stop last ts (omega (arith, empty_least ts s)))
left-past (suc f) last ts l s =
    split (ltb last (least_of ts))
    (λ e. rw e (sym (skip_stop last ts (ltb-true _ _ e))))
    (λ e. let below : least_of ts ≤ last = ltb-false _ _ e in
    let less : size (pass ts) < size ts = drop_less (least_of ts) ts refl (omega arith) in
    rw e (left-past f last (pass ts) l (omega arith) ∙ skip_drop last (least_of ts) ts below))

below-below : (f g : ℕ) (ps : List Post) → f ≤ g → drop_below g (drop_below f ps) ≡ drop_below g ps
below-below f g [] l = refl
below-below f g (p ∷ ps) l = split (ltb p.doc f) (λ e. rw (e, lt-ltb p.doc g (omega (arith, ltb-true p.doc f e))) (below-below f g ps l)) (λ e. rw e)

pub skip_skip : (f g : ℕ) (ts : List Term) → f ≤ g → map (skip_term g) (map (skip_term f) ts) ≡ map (skip_term g) ts
skip_skip f g [] l = refl
skip_skip f g (t ∷ ts) l = cc (below-below f g t.posts l, skip_skip f g ts l)

-- THE CURSORS KEPT: after the run the lists stand where lists opened anew and skipped past `last` would stand
pub left-within : (first last : ℕ) (ts : List Term) → last < none → first ≤ suc last
    → run_left (size (map (skip_term first) ts)) last (map (skip_term first) ts) ≡ map (skip_term (suc last)) ts
left-within first last ts l m = left-past (size (map (skip_term first) ts)) last (map (skip_term first) ts) l (omega arith) ∙ skip_skip first (suc last) ts m

-- the same in the terms of the code
pub interval-kept : (k first last : ℕ) (kept new : List Hit) (ts us : List Term) → us ≡ map (skip_term first) ts → last < none → Rises 0 ts
    → new ≡ keeps k kept (run_hits any_list (size us) last us) → new ≡ keeps k kept (within first last (hits_of any_list ts))
interval-kept k first last kept new ts us q l a e = e ∙ rw q (ap (keeps k kept) (run-within any_list first last ts l a))

pub interval-left : (first last : ℕ) (ts us vs : List Term) → us ≡ map (skip_term first) ts → last < none → first ≤ suc last
    → vs ≡ run_left (size us) last us → vs ≡ map (skip_term (suc last)) ts
interval-left first last ts us vs q l m e = e ∙ rw q (left-within first last ts l m)
