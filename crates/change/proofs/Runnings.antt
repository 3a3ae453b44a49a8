-- Loops over two runs, in place: one posting taken out, one put in. Assumes nothing.
use Rattle.std.specs.List.{copy_within}
use Rattle.std.specs.List.Sorted.{IsPartitionPoint, IsPartitionedBy}
use Rattle.std.proofs.lemmas.Slice.{between_is}
use Rattle.std.proofs.lemmas.List.Sorted.{IsPartitionedBy-ltb, IsNonDecreasingBy-from_all_adjacent}
use Prim.Native.Nat.{ℕ, zero, suc, ◌+◌, ◌-◌, ◌≤◌, ◌<◌}
use native.Mathlib.Omega.{arith}
use native.Mathlib.Numerals.{add-one}
use mathlib.Core.Path.{◌≡◌, refl, sym, ap, subst, ◌∙◌}
use mathlib.Core.List.{List, [], ◌∷◌, ◌++◌}
use mathlib.Core.Bool.{Bool, true, false, ◌||◌}
use borrow.Author.Tests.{lt-ltb, le-ltb, ltb-true, ltb-false, eq-eqb, ne_eqb}
use lib.Dec.{ltb, eqb}
use lib.ListN.{length, get_or, set, take, drop, length-set, length-append, length-drop, take-append-drop}
use lib.Seq.{take-suc, take-take, get_or-drop, length-take-le}
use Rattle.model.specs.Post.{Post, post, postings, docs, scores, Rising}
use Rattle.model.specs.Runs.{has, Holds}
use Rattle.model.proofs.Lists.{split, both_ways, map-length}
use Rattle.model.proofs.Storing.{front-more, past_more, run_holds, holds-take, holds-drop}
use Rattle.change.specs.Edits.{set_post, clear_post}
use Rattle.change.specs.Runs.{front, Clears, Insertable, Inserts}

-- ---- postings and their two runs

-- the first n numbers of two runs are these postings
pub record Runs (ds ss : List ℕ) (n : ℕ) (ps : List Post) : Type 0 where
  pub roomy : n ≤ length ds
  pub wide : n ≤ length ss
  pub docids : take n ds ≡ docs ps
  pub scored : take n ss ≡ scores ps

-- two runs after a write, as long as before
pub record Alike (ds ss ds' ss' : List ℕ) : Type 0 where
  pub docids : length ds' ≡ length ds
  pub scored : length ss' ≡ length ss

pub docs-append : (xs ys : List Post) → docs (xs ++ ys) ≡ docs xs ++ docs ys
docs-append [] ys = refl
docs-append (x ∷ xs) ys = ap {B = List ℕ} (λ t. x.doc ∷ t) (docs-append xs ys)

pub scores-append : (xs ys : List Post) → scores (xs ++ ys) ≡ scores xs ++ scores ys
scores-append [] ys = refl
scores-append (x ∷ xs) ys = ap {B = List ℕ} (λ t. x.score ∷ t) (scores-append xs ys)

pub postings-own : (ps : List Post) → postings (docs ps) (scores ps) ≡ ps
postings-own [] = refl
postings-own (p ∷ ps) = ap {B = List Post} (λ t. p ∷ t) (postings-own ps)

postings-append : (xs bs cs es : List ℕ) → length xs ≡ length bs → postings (xs ++ cs) (bs ++ es) ≡ postings xs bs ++ postings cs es
postings-append [] [] cs es e = refl
postings-append [] (b ∷ bs) cs es e = absurd (omega arith)
postings-append (a ∷ xs) [] cs es e = absurd (omega arith)
postings-append (a ∷ xs) (b ∷ bs) cs es e = ap {B = List Post} (λ t. post a b ∷ t) (postings-append xs bs cs es (omega arith))

pub docs-of : (xs ys : List ℕ) → length xs ≡ length ys → docs (postings xs ys) ≡ xs
docs-of [] ys e = refl
docs-of (x ∷ xs) [] e = absurd (omega arith)
docs-of (x ∷ xs) (y ∷ ys) e = ap {B = List ℕ} (λ t. x ∷ t) (docs-of xs ys (omega arith))

pub scores-of : (xs ys : List ℕ) → length xs ≡ length ys → scores (postings xs ys) ≡ ys
scores-of [] [] e = refl
scores-of [] (y ∷ ys) e = absurd (omega arith)
scores-of (x ∷ xs) [] e = absurd (omega arith)
scores-of (x ∷ xs) (y ∷ ys) e = ap {B = List ℕ} (λ t. y ∷ t) (scores-of xs ys (omega arith))

-- two runs and their first n postings
front-runs : (ds ss : List ℕ) (n : ℕ) → n ≤ length ds → n ≤ length ss → Runs ds ss n (front n ds ss)
front-runs ds ss n h k =
    let e : length (take n ds) ≡ length (take n ss) = omega (arith, length-take-le n ds h, length-take-le n ss k) in
    record { roomy = h; wide = k; docids = sym (docs-of (take n ds) (take n ss) e); scored = sym (scores-of (take n ds) (take n ss) e) }

front_more' : (i : ℕ) (ds ss : List ℕ) → i < length ds → i < length ss → front (i + 1) ds ss ≡ front i ds ss ++ (post (get_or ds i 0) (get_or ss i 0) ∷ [])
front_more' i ds ss h k =
    let e : length (take i ds) ≡ length (take i ss) = omega (arith, length-take-le i ds (omega arith), length-take-le i ss (omega arith)) in
    rw (add-one i, take-suc ds i 0 h, take-suc ss i 0 k) (postings-append (take i ds) (take i ss) (get_or ds i 0 ∷ []) (get_or ss i 0 ∷ []) e)

pub runs-front : (ds ss : List ℕ) (n : ℕ) (ps : List Post) → Runs ds ss n ps → front n ds ss ≡ ps
runs-front ds ss n ps r = rw (r.docids, r.scored) (postings-own ps)

pub runs-length : (ds ss : List ℕ) (n : ℕ) (ps : List Post) → Runs ds ss n ps → length ps ≡ n
runs-length ds ss n ps r = sym (map-length (λ (p : Post). p.doc) ps) ∙ sym (ap length r.docids) ∙ length-take-le n ds r.roomy

-- what stands at i, where the runs from i on are as they were
same_at : (i : ℕ) (l m : List ℕ) → drop i m ≡ drop i l → get_or m i 0 ≡ get_or l i 0
same_at i l m e =
    let z : i + 0 ≡ i = omega arith in
    rw z at (sym (get_or-drop i m 0 0) ∙ ap (λ (t : List ℕ). get_or t 0 0) e ∙ get_or-drop i l 0 0)

-- ---- a run written in front

module _ {old xs new : List ℕ} {r : ℕ} (h : Holds old xs new r) where
  holds-room : r ≤ length new
  holds-room = omega (arith, h.count, ap length h.whole, length-append xs (drop r old))

  pub holds-length : r ≤ length old → length new ≡ length old
  holds-length l = omega (arith, h.count, ap length h.whole, length-append xs (drop r old), length-drop r old)

  -- one more is written
  holds_more : (x : ℕ) → r < length new → Holds old (xs ++ (x ∷ [])) (set new r x) (r + 1)
  holds_more x l =
      run_holds old (xs ++ (x ∷ [])) (set new r x) (r + 1) (simp length-set (omega arith))
      (front-more new r x l ∙ ap {B = List ℕ} (λ t. t ++ (x ∷ [])) (holds-take old xs new r h))
      (past_more old new r x (holds-drop old xs new r h))

  -- what stands past it is as it was
  past-at : (i : ℕ) → r ≤ i → get_or new i 0 ≡ get_or old i 0
  past-at i l =
      let z : r + (i - r) ≡ i = omega arith in
      rw z at (sym (get_or-drop r new (i - r) 0) ∙ ap (λ (t : List ℕ). get_or t (i - r) 0) (holds-drop old xs new r h) ∙ get_or-drop r old (i - r) 0)

-- postings in front of two runs
pub holds-runs : {ds ss ds' ss' : List ℕ} {r : ℕ} (ps : List Post) → Holds ds (docs ps) ds' r → Holds ss (scores ps) ss' r → Runs ds' ss' r ps
holds-runs {ds} {ss} {ds'} {ss'} {r} ps h k =
    record { roomy = holds-room h; wide = holds-room k; docids = holds-take ds (docs ps) ds' r h; scored = holds-take ss (scores ps) ss' r k }

append-none : (xs : List Post) → xs ++ [] ≡ xs
append-none [] = refl
append-none (x ∷ xs) = ap {B = List Post} (λ t. x ∷ t) (append-none xs)

-- ---- taking one out

clear-append : (d : ℕ) (xs ys : List Post) → clear_post d (xs ++ ys) ≡ clear_post d xs ++ clear_post d ys
clear-append d [] ys = refl
clear-append d (x ∷ xs) ys = split (eqb d x.doc) (λ e. rw (e, clear-append d xs ys)) (λ e. rw (e, clear-append d xs ys))

-- of the first i postings, those that stay are the first j
pub record Clearing (d n : ℕ) (ds₀ ss₀ ds ss : List ℕ) (i j : ℕ) : Type 0 where
  pub alike : Alike ds₀ ss₀ ds ss
  pub order : j ≤ i
  pub most : i ≤ n
  pub docids : Holds ds₀ (docs (clear_post d (front i ds₀ ss₀))) ds j
  pub scored : Holds ss₀ (scores (clear_post d (front i ds₀ ss₀))) ss j

module _ (d n : ℕ) (ds₀ ss₀ : List ℕ) (roomy : n ≤ length ds₀) (wide : n ≤ length ss₀) where
  pub clear-start : Clearing d n ds₀ ss₀ ds₀ ss₀ 0 0
  clear-start =
      record {
        alike = record { docids = refl; scored = refl };
        order = omega arith;
        most = omega arith;
        docids = record { count = refl; whole = refl };
        scored = record { count = refl; whole = refl };
      }

  module _ (ds ss : List ℕ) (i j : ℕ) (l : i < n) (c : Clearing d n ds₀ ss₀ ds ss i j) where
    one_more : clear_post d (front (i + 1) ds₀ ss₀) ≡ clear_post d (front i ds₀ ss₀) ++ clear_post d (post (get_or ds i 0) (get_or ss i 0) ∷ [])
    one_more =
        rw (front_more' i ds₀ ss₀ (omega arith) (omega arith), past-at c.docids i c.order, past-at c.scored i c.order)
        (clear-append d (front i ds₀ ss₀) (post (get_or ds₀ i 0) (get_or ss₀ i 0) ∷ []))

    pub clear_stays : (get_or ds i 0 ≡ d → ⊥) → Clearing d n ds₀ ss₀ (set ds j (get_or ds i 0)) (set ss j (get_or ss i 0)) (i + 1) (j + 1)
    clear_stays ne =
        let kept = clear_post d (front i ds₀ ss₀) in
        let x = get_or ds i 0 in
        let y = get_or ss i 0 in
        let f : eqb d x ≡ false = ne_eqb d x (λ (z : d ≡ x). ne (sym z)) in
        let e : clear_post d (front (i + 1) ds₀ ss₀) ≡ kept ++ (post x y ∷ []) = one_more ∙ rw f in
        record {
          alike = record { docids = length-set ds j x ∙ c.alike.docids; scored = length-set ss j y ∙ c.alike.scored };
          order = omega (arith, c.order);
          most = omega arith;
          docids = subst (λ (v : List ℕ). Holds ds₀ v (set ds j x) (j + 1)) (sym (ap docs e ∙ docs-append kept (post x y ∷ []))) (holds_more c.docids x (omega (arith, c.order, c.alike.docids)));
          scored = subst (λ (v : List ℕ). Holds ss₀ v (set ss j y) (j + 1)) (sym (ap scores e ∙ scores-append kept (post x y ∷ []))) (holds_more c.scored y (omega (arith, c.order, c.alike.scored)));
        }

    pub clear_goes : get_or ds i 0 ≡ d → Clearing d n ds₀ ss₀ ds ss (i + 1) j
    clear_goes eq =
        let kept = clear_post d (front i ds₀ ss₀) in
        let f : eqb d (get_or ds i 0) ≡ true = eq-eqb d (get_or ds i 0) (sym eq) in
        let e : clear_post d (front (i + 1) ds₀ ss₀) ≡ kept = one_more ∙ rw f (append-none kept) in
        record {
          alike = c.alike;
          order = omega (arith, c.order);
          most = omega arith;
          docids = subst (λ (v : List ℕ). Holds ds₀ v ds j) (sym (ap docs e)) c.docids;
          scored = subst (λ (v : List ℕ). Holds ss₀ v ss j) (sym (ap scores e)) c.scored;
        }

  -- the same runs by other names
  pub clear_as : (i : ℕ) {ds ss ds' ss' : List ℕ} {j j' : ℕ} → ds' ≡ ds → ss' ≡ ss → j' ≡ j → Clearing d n ds₀ ss₀ ds ss i j → Clearing d n ds₀ ss₀ ds' ss' i j'
  clear_as i {ds} {ss} {ds'} {ss'} {j} {j'} e f g c =
      subst (λ (x : List ℕ). Clearing d n ds₀ ss₀ x ss' i j') (sym e)
      (subst (λ (x : List ℕ). Clearing d n ds₀ ss₀ ds x i j') (sym f)
      (subst (λ (k : ℕ). Clearing d n ds₀ ss₀ ds ss i k) (sym g) c))

  pub clear-done : (ds ss : List ℕ) (i j : ℕ) → n ≤ i → Clearing d n ds₀ ss₀ ds ss i j → Clears d n ds₀ ss₀ j ds ss
  clear-done ds ss i j h c =
      let q : i ≡ n = omega (arith, c.most) in
      record {
        docids = subst (λ (k : ℕ). Holds ds₀ (docs (clear_post d (front k ds₀ ss₀))) ds j) q c.docids;
        scored = subst (λ (k : ℕ). Holds ss₀ (scores (clear_post d (front k ds₀ ss₀))) ss j) q c.scored;
      }

-- the same for the postings that two runs are known to hold
pub clears_runs : {d n r : ℕ} {ds ss ds' ss' : List ℕ} {ps : List Post} → Runs ds ss n ps → Clears d n ds ss r ds' ss' → Runs ds' ss' r (clear_post d ps)
clears_runs {d} {n} {r} {ds} {ss} {ds'} {ss'} {ps} k c =
    subst (λ (x : List Post). Runs ds' ss' r (clear_post d x)) (runs-front ds ss n ps k) (holds-runs (clear_post d (front n ds ss)) c.docids c.scored)

-- ---- putting one in

-- above a posting all docids are other ones, so it stands in front of them
pub rising-free : (n d : ℕ) (ps : List Post) → d ≤ n → Rising n ps → has d (docs ps) ≡ false
rising-free n d [] l r = refl
rising-free n d (p ∷ ps) l r =
    rw (ne_eqb d p.doc (λ (z : d ≡ p.doc). omega (arith, r.0))) (rising-free p.doc d ps (omega (arith, r.0)) r.1)

pub set_first : (d w : ℕ) (ps : List Post) → Rising d ps → set_post d w ps ≡ post d w ∷ ps
set_first d w [] r = refl
set_first d w (p ∷ ps) r = rw (lt-ltb d p.doc r.0)

-- docids before place k are lower, and the one that stands there is higher: the posting goes there
set_at : (d w k : ℕ) (xs ys : List ℕ) → length xs ≡ length ys → k ≤ length xs → ((i : ℕ) → i < k → get_or xs i 0 < d) → (k < length xs → d < get_or xs k 0) →
    set_post d w (postings xs ys) ≡ postings (take k xs ++ (d ∷ drop k xs)) (take k ys ++ (w ∷ drop k ys))
set_at d w zero [] [] e l b h = refl
set_at d w zero [] (y ∷ ys) e l b h = absurd (omega arith)
set_at d w zero (x ∷ xs) [] e l b h = absurd (omega arith)
set_at d w zero (x ∷ xs) (y ∷ ys) e l b h = rw (lt-ltb d x (h (omega arith)))
set_at d w (suc k) [] ys e l b h = absurd (omega arith)
set_at d w (suc k) (x ∷ xs) [] e l b h = absurd (omega arith)
set_at d w (suc k) (x ∷ xs) (y ∷ ys) e l b h =
    let low : x < d = b 0 (omega arith) in
    rw (le-ltb d x (omega arith), ne_eqb d x (λ (z : d ≡ x). omega arith))
    (ap {B = List Post} (λ t. post x y ∷ t) (set_at d w k xs ys (omega arith) (omega arith) (λ i q. b (suc i) (omega arith)) (λ q. h (omega arith))))

-- a run that rises
rising-next : (p : ℕ) (xs ys : List ℕ) (k : ℕ) (z : ℕ) → length xs ≡ length ys → Rising p (postings xs ys) → k + 1 < length xs → get_or xs k z ≤ get_or xs (k + 1) z
rising-next p xs ys k z e r h = rw (add-one k) (go p xs ys k e r (omega arith))
  where
    go : (p : ℕ) (xs ys : List ℕ) (k : ℕ) → length xs ≡ length ys → Rising p (postings xs ys) → suc k < length xs → get_or xs k z ≤ get_or xs (suc k) z
    go p [] ys k e r h = absurd (omega arith)
    go p (x ∷ xs) [] k e r h = absurd (omega arith)
    go p (x ∷ []) (y ∷ ys) k e r h = absurd (omega arith)
    go p (x ∷ a ∷ xs) (y ∷ []) k e r h = absurd (omega arith)
    go p (x ∷ a ∷ xs) (y ∷ b ∷ ys) zero e r h = omega (arith, r.1.0)
    go p (x ∷ a ∷ xs) (y ∷ b ∷ ys) (suc k) e r h = go x (a ∷ xs) (b ∷ ys) k (omega arith) r.1 (omega arith)

-- what a run does not hold stands nowhere in it
neither : (a b : Bool) → (a || b) ≡ false → (a ≡ false) × (b ≡ false)
neither true b h = (cc, cc)
neither false b h = (refl, h)

not_at : (d : ℕ) (xs : List ℕ) (k : ℕ) → k < length xs → has d xs ≡ false → d ≡ get_or xs k 0 → ⊥
not_at d [] k h f e = absurd (omega arith)
not_at d (x ∷ xs) zero h f e = both_ways (eqb d x) (eq-eqb d x e) (neither (eqb d x) (has d xs) f).0
not_at d (x ∷ xs) (suc k) h f e = not_at d xs k (omega arith) (neither (eqb d x) (has d xs) f).1 e

-- x stored at place k, from which those that stood there have moved up by one
moved : (k x : ℕ) (l m r : List ℕ) → k < length l → set ((take (suc k) l ++ m) ++ r) k x ≡ (take k l ++ (x ∷ m)) ++ r
moved k x [] m r h = absurd (omega arith)
moved zero x (a ∷ l) m r h = refl
moved (suc k) x (a ∷ l) m r h = ap {B = List ℕ} (λ t. a ∷ t) (moved k x l m r (omega arith))

pub moved_up : (k n x : ℕ) (l : List ℕ) → k ≤ n → n < length l → Holds l (take k (take n l) ++ (x ∷ drop k (take n l))) (set (copy_within l k n (k + 1)) k x) (n + 1)
moved_up k n x l h q =
    let xs = take n l in
    let e : k + 1 + (n - k) ≡ n + 1 = omega arith in
    let m : take (n - k) (drop k l) ≡ drop k xs = between_is l k n in
    let f : take k l ≡ take k xs = sym (take-take k n l h) in
    record {
      count = omega (arith, length-append (take k xs) (x ∷ drop k xs), ap length (take-append-drop k xs), length-append (take k xs) (drop k xs), length-take-le n l (omega arith));
      whole = rw (e, m, add-one k) (moved k x l (drop k xs) (drop (n + 1) l) (omega arith)) ∙ ap (λ (t : List ℕ). (t ++ (x ∷ drop k xs)) ++ drop (n + 1) l) f;
    }

module _ (d n : ℕ) (ds ss : List ℕ) (o : Insertable d n ds ss) where
  even : length (take n ds) ≡ length (take n ss)
  even = omega (arith, length-take-le n ds (omega (arith, o.roomy)), length-take-le n ss (omega (arith, o.wide)))

  -- the docids below d come first
  pub below-first : IsPartitionedBy (λ y. ltb y d) (take n ds)
  below-first = IsPartitionedBy-ltb (λ y. y) (take n ds) d (IsNonDecreasingBy-from_all_adjacent (λ y. y) (take n ds) (λ k z q. rising-next 0 (take n ds) (take n ss) k z even o.rise q))

  -- both runs moved up from place k, and the posting stored there
  pub inserted : (w k : ℕ) → k ≤ n → IsPartitionPoint (λ y. ltb y d ≡ true) (λ y. ltb y d ≡ false) (take n ds) k →
      Inserts d w n ds ss (n + 1) (set (copy_within ds k n (k + 1)) k d) (set (copy_within ss k n (k + 1)) k w)
  inserted w k h q =
      let xs = take n ds in
      let ys = take n ss in
      let size : length xs ≡ n = length-take-le n ds (omega (arith, o.roomy)) in
      let free : has d xs ≡ false = rw (docs-of xs ys even) at o.free in
      let above : k < length xs → d < get_or xs k 0 = λ l. let z = not_at d xs k l free in let g = ltb-false (get_or xs k 0) d (q.1 k 0 (omega arith) l) in omega arith in
      let p : set_post d w (front n ds ss) ≡ postings (take k xs ++ (d ∷ drop k xs)) (take k ys ++ (w ∷ drop k ys)) =
      set_at d w k xs ys even (omega arith) (λ i l. ltb-true _ _ (q.0 i 0 (omega arith) l)) above in
      let same : length (take k xs ++ (d ∷ drop k xs)) ≡ length (take k ys ++ (w ∷ drop k ys)) = sym (moved_up k n d ds h o.roomy).count ∙ (moved_up k n w ss h o.wide).count in
      record {
        docids = rw (p, docs-of (take k xs ++ (d ∷ drop k xs)) (take k ys ++ (w ∷ drop k ys)) same) (moved_up k n d ds h o.roomy);
        scored = rw (p, scores-of (take k xs ++ (d ∷ drop k xs)) (take k ys ++ (w ∷ drop k ys)) same) (moved_up k n w ss h o.wide);
      }

-- the same for the postings that two runs are known to hold
pub runs_insertable : {d n : ℕ} {ds ss : List ℕ} {ps : List Post} → Runs ds ss n ps → n < length ds → n < length ss → Rising 0 ps → has d (docs ps) ≡ false → Insertable d n ds ss
runs_insertable {d} {n} {ds} {ss} {ps} k h l r f =
    let e = runs-front ds ss n ps k in
    record { roomy = h; wide = l; rise = rw e r; free = rw e f }

pub inserts_runs : {d w n r : ℕ} {ds ss ds' ss' : List ℕ} {ps : List Post} → Runs ds ss n ps → Inserts d w n ds ss r ds' ss' → Runs ds' ss' r (set_post d w ps)
inserts_runs {d} {w} {n} {r} {ds} {ss} {ds'} {ss'} {ps} k c =
    subst (λ (x : List Post). Runs ds' ss' r (set_post d w x)) (runs-front ds ss n ps k) (holds-runs (set_post d w (front n ds ss)) c.docids c.scored)
