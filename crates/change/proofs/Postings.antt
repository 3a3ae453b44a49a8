-- One posting put in or taken out: the run stays one that may be written, and what it then holds. Assumes nothing.
use Prim.Native.Nat.{ℕ, suc, ◌+◌, ◌≤◌, ◌<◌}
use native.Mathlib.Omega.{arith}
use mathlib.Core.Path.{◌≡◌, refl, sym, ap, ◌∙◌}
use mathlib.Core.List.{List, [], ◌∷◌}
use mathlib.Core.Bool.{Bool, true, false, cond, ◌&&◌}
use borrow.Author.Tests.{ltb-true, ltb-false, eqb-true, eqb-false, ne_eqb}
use lib.Dec.{ltb, eqb}
use lib.ListN.{length}
use Rattle.model.specs.Limits.{max_docid, max_score}
use Rattle.model.specs.Post.{Post, post, docs, Rising, Scored, last_doc}
use Rattle.model.specs.Runs.{has}
use Rattle.model.proofs.Lists.{split, both_ways}
use Rattle.list.specs.Write.{Word, Words, Writable}
use Rattle.change.specs.Edits.{Edit, Set, Clear, Withdraw, set_post, clear_post, set_word, unless_empty, clear_words, only, every, applied, score_in, stored, touches, left_score}

-- ---- set

set-rise : (n d w : ℕ) (ps : List Post) → n < d → Rising n ps → Rising n (set_post d w ps)
set-rise n d w [] l r = (l, tt)
set-rise n d w (p ∷ ps) l r =
    split (ltb d p.doc)
    (λ e. rw e (l, (ltb-true _ _ e, r.1)))
    (λ e. split (eqb d p.doc)
    (λ f. let q : d ≡ p.doc = eqb-true _ _ f in rw (e, f) (l, rw q r.1))
    (λ f. let more : p.doc < d = omega (arith, ltb-false d p.doc e, eqb-false d p.doc f) in rw (e, f) (r.0, set-rise p.doc d w ps more r.1)))

set-scores : (d w : ℕ) (ps : List Post) → 0 < w → w ≤ max_score → Scored ps → Scored (set_post d w ps)
set-scores d w [] l m s = ((l, m), tt)
set-scores d w (p ∷ ps) l m s =
    split (ltb d p.doc)
    (λ e. rw e ((l, m), s))
    (λ e. split (eqb d p.doc) (λ f. rw (e, f) ((l, m), s.1)) (λ f. rw (e, f) (s.0, set-scores d w ps l m s.1)))

set_last : (n d w : ℕ) (ps : List Post) → d ≤ max_docid → last_doc n ps ≤ max_docid → last_doc n (set_post d w ps) ≤ max_docid
set_last n d w [] l m = l
set_last n d w (p ∷ ps) l m =
    split (ltb d p.doc)
    (λ e. rw e m)
    (λ e. split (eqb d p.doc)
    (λ f. let q : d ≡ p.doc = eqb-true _ _ f in rw (e, f, q) m)
    (λ f. rw (e, f) (set_last p.doc d w ps l m)))

pub set-some : (d w : ℕ) (ps : List Post) → 0 < length (set_post d w ps)
set-some d w [] = omega arith
set-some d w (p ∷ ps) =
    split (ltb d p.doc)
    (λ e. rw e (omega arith))
    (λ e. split (eqb d p.doc) (λ f. rw (e, f) (omega arith)) (λ f. rw (e, f) (omega arith)))

-- ---- clear

pub rising_less : (n m : ℕ) (ps : List Post) → n ≤ m → Rising m ps → Rising n ps
rising_less n m [] l r = tt
rising_less n m (p ∷ ps) l r = (omega (arith, r.0), r.1)

pub clear-rise : (n d : ℕ) (ps : List Post) → Rising n ps → Rising n (clear_post d ps)
clear-rise n d [] r = tt
clear-rise n d (p ∷ ps) r =
    let more : Rising p.doc (clear_post d ps) = clear-rise p.doc d ps r.1 in
    split (eqb d p.doc)
    (λ e. rw e (rising_less n p.doc (clear_post d ps) (omega (arith, r.0)) more))
    (λ e. rw e (r.0, more))

clear-scores : (d : ℕ) (ps : List Post) → Scored ps → Scored (clear_post d ps)
clear-scores d [] s = tt
clear-scores d (p ∷ ps) s = split (eqb d p.doc) (λ e. rw e (clear-scores d ps s.1)) (λ e. rw e (s.0, clear-scores d ps s.1))

clear-last : (n m d : ℕ) (ps : List Post) → n ≤ m → Rising m ps → last_doc n (clear_post d ps) ≤ last_doc m ps
clear-last n m d [] l r = l
clear-last n m d (p ∷ ps) l r =
    split (eqb d p.doc)
    (λ e. rw e (clear-last n p.doc d ps (omega (arith, r.0)) r.1))
    (λ e. rw e (clear-last p.doc p.doc d ps (omega arith) r.1))

pub clear-length : (d : ℕ) (ps : List Post) → length (clear_post d ps) ≤ length ps
clear-length d [] = omega arith
clear-length d (p ∷ ps) = split (eqb d p.doc) (λ e. rw e (omega (arith, clear-length d ps))) (λ e. rw e (omega (arith, clear-length d ps)))

-- as many as before, and nothing was cleared
pub clear-same : (d : ℕ) (ps : List Post) → length (clear_post d ps) ≡ length ps → has d (docs ps) ≡ false
clear-same d [] e = refl
clear-same d (p ∷ ps) e =
    split (eqb d p.doc)
    (λ f. let q : length (clear_post d ps) ≡ suc (length ps) = rw f at e in absurd (omega (arith, clear-length d ps)))
    (λ f. let q : suc (length (clear_post d ps)) ≡ suc (length ps) = rw f at e in rw f (clear-same d ps (omega arith)))

-- where there is no such posting nothing changes
pub clear_absent : (d : ℕ) (ps : List Post) → has d (docs ps) ≡ false → clear_post d ps ≡ ps
clear_absent d [] e = refl
clear_absent d (p ∷ ps) e =
    split (eqb d p.doc)
    (λ f. both_ways (has d (docs (p ∷ ps))) (rw f) e)
    (λ f. rw f (ap {B = List Post} (λ t. p ∷ t) (clear_absent d ps (rw f at e))))

pub clear-fewer : (d : ℕ) (ps : List Post) → (length (clear_post d ps) ≡ length ps → ⊥) → has d (docs ps) ≡ true
clear-fewer d ps n =
    split (has d (docs ps))
    (λ h. h)
    (λ h. absurd (n (ap length (clear_absent d ps h))))

-- ---- runs that may be written, but for their length

pub record Fit (ps : List Post) : Type 0 where
  pub some : 0 < length ps
  pub rise : Rising 0 ps
  pub scores : Scored ps
  pub last : last_doc 0 ps ≤ max_docid

pub may-fit : (ps : List Post) → Writable ps → Fit ps
may-fit ps w = record { some = w.some; rise = w.rise; scores = w.scores; last = w.last }

-- a posting in range
pub record Ranged (d w : ℕ) : Type 0 where
  pub low : 0 < d
  pub high : d ≤ max_docid
  pub some : 0 < w
  pub most : w ≤ max_score

pub one-fit : (d w : ℕ) → Ranged d w → Fit (post d w ∷ [])
one-fit d w g = record { some = omega arith; rise = (g.low, tt); scores = ((g.some, g.most), tt); last = g.high }

pub set-fit : (d w : ℕ) (ps : List Post) → Ranged d w → Fit ps → Fit (set_post d w ps)
set-fit d w ps g f =
    record {
      some = set-some d w ps;
      rise = set-rise 0 d w ps g.low f.rise;
      scores = set-scores d w ps g.some g.most f.scores;
      last = set_last 0 d w ps g.high f.last;
    }

pub clear-fit : (d : ℕ) (ps : List Post) → Fit ps → 0 < length (clear_post d ps) → Fit (clear_post d ps)
clear-fit d ps f s =
    record {
      some = s;
      rise = clear-rise 0 d ps f.rise;
      scores = clear-scores d ps f.scores;
      last = omega (arith, clear-last 0 0 d ps (omega arith) f.rise, f.last);
    }

-- ---- what a run then holds

score-set : (d w e : ℕ) (ps : List Post) → score_in e (set_post d w ps) ≡ cond (eqb e d) w (score_in e ps)
score-set d w e [] = refl
score-set d w e (p ∷ ps) =
    split (ltb d p.doc)
    (λ l. rw l)
    (λ l. split (eqb d p.doc)
    (λ f. let q : d ≡ p.doc = eqb-true _ _ f in split (eqb e p.doc) (λ g. rw (l, f, q, g)) (λ g. rw (l, f, q, g)))
    (λ f. split (eqb e d)
    (λ g. let q : e ≡ d = eqb-true _ _ g in
    let ih : score_in e (set_post d w ps) ≡ w = rw g at (score-set d w e ps) in
    rw (l, f, g, ih, q, f))
    (λ g. rw (l, f, score-set d w e ps, g))))

score-clear : (d e : ℕ) (ps : List Post) → score_in e (clear_post d ps) ≡ cond (eqb e d) 0 (score_in e ps)
score-clear d e [] = split (eqb e d) (λ g. rw g) (λ g. rw g)
score-clear d e (p ∷ ps) =
    split (eqb d p.doc)
    (λ f. let q : d ≡ p.doc = eqb-true _ _ f in
    split (eqb e d)
    (λ g. rw (f, score-clear d e ps, g))
    (λ g. let h : eqb e p.doc ≡ false = rw q at g in rw (f, score-clear d e ps, g, h)))
    (λ f. split (eqb e d)
    (λ g. let q : e ≡ d = eqb-true _ _ g in let h : eqb e p.doc ≡ false = rw q f in rw (f, h, score-clear d e ps, g))
    (λ g. rw (f, score-clear d e ps, g)))

-- ---- and a shelf

abbrev pub Ordered : ℕ → List Word → Type 0
Ordered floor [] = Unit {0}
Ordered floor (x ∷ xs) = (floor ≤ x.term) × Ordered (x.term + 1) xs

pub words_ordered : (floor : ℕ) (xs : List Word) → Words floor xs → Ordered floor xs
words_ordered floor [] ok = tt
words_ordered floor (x ∷ xs) ok = (ok.0, words_ordered (x.term + 1) xs ok.3)

-- lists whose terms rise hold nothing below the first
stored_low : (floor u e : ℕ) (xs : List Word) → u < floor → Ordered floor xs → stored u e xs ≡ 0
stored_low floor u e [] l ok = refl
stored_low floor u e (x ∷ xs) l ok =
    rw (ne_eqb u x.term (λ (q : u ≡ x.term). omega (arith, ok.0))) (stored_low (x.term + 1) u e xs (omega (arith, ok.0)) ok.1)

-- after a set, docid d has score w in the list of term t, and all else is as before
stored-set : (floor t d w u e : ℕ) (xs : List Word) → Ordered floor xs → stored u e (set_word t d w xs) ≡ cond (eqb u t && eqb e d) w (stored u e xs)
stored-set floor t d w u e [] ok = split (eqb u t) (λ g. rw g) (λ g. rw g)
stored-set floor t d w u e (x ∷ xs) ok =
    split (ltb t x.term)
    (λ l. split (eqb u t)
    (λ g.
    let q : u ≡ t = eqb-true _ _ g in
    let low : stored u e (x ∷ xs) ≡ 0 = stored_low x.term u e (x ∷ xs) (omega (arith, ltb-true t x.term l)) (omega arith, ok.1) in
    rw (l, g) (ap (λ (n : ℕ). cond (eqb e d) w n) (sym low)))
    (λ g. rw (l, g)))
    (λ l. split (eqb t x.term)
    (λ f. let q : t ≡ x.term = eqb-true _ _ f in
    split (eqb u x.term)
    (λ g. rw (l, f, q, g, score-set d w e x.posts))
    (λ g. rw (l, f, q, g)))
    (λ f. split (eqb u x.term)
    (λ g. let q : u ≡ x.term = eqb-true _ _ g in
    let h : eqb u t ≡ false = ne_eqb u t (λ (z : u ≡ t). eqb-false t x.term f (sym z ∙ q)) in
    rw (l, f, g, h))
    (λ g. rw (l, f, g) (stored-set (x.term + 1) t d w u e xs ok.1))))

none-zero : (b : Bool) → ◌≡◌ {A = ℕ} (cond b 0 0) 0
none-zero true = refl
none-zero false = refl

stored-unless : (strip : Bool) (t u e : ℕ) (ps : List Post) (xs : List Word) → (eqb u t ≡ true → stored u e xs ≡ 0) → stored u e (unless_empty strip t ps xs) ≡ cond (eqb u t) (score_in e ps) (stored u e xs)
stored-unless strip t u e [] xs low = split (eqb u t) (λ g. rw g (low g)) (λ g. rw g)
stored-unless strip t u e (p ∷ ps) xs low = refl

-- after a clear or a withdrawal, docid d is in no list that is named, and all else is as before
stored-clear : (named : ℕ → Bool) (floor d u e : ℕ) (xs : List Word) → Ordered floor xs → stored u e (clear_words named d xs) ≡ cond (named u && eqb e d) 0 (stored u e xs)
stored-clear named floor d u e [] ok = sym (none-zero (named u && eqb e d))
stored-clear named floor d u e (x ∷ xs) ok =
    let ih : stored u e (clear_words named d xs) ≡ cond (named u && eqb e d) 0 (stored u e xs) = stored-clear named (x.term + 1) d u e xs ok.1 in
    let low : eqb u x.term ≡ true → stored u e (clear_words named d xs) ≡ 0 = λ g.
    ih ∙ ap (λ (n : ℕ). cond (named u && eqb e d) 0 n) (stored_low (x.term + 1) u e xs (omega (arith, eqb-true u x.term g)) ok.1) ∙ none-zero (named u && eqb e d) in
    split (eqb u x.term)
    (λ g. let q : u ≡ x.term = eqb-true _ _ g in
    split (named x.term)
    (λ m. let m1 : named u ≡ true = rw q m in
    rw (m, stored-unless x.strip x.term u e (clear_post d x.posts) (clear_words named d xs) low, g, m1) (score-clear d e x.posts))
    (λ m. let m1 : named u ≡ false = rw q m in rw (m, g, m1)))
    (λ g. split (named x.term)
    (λ m. rw (m, stored-unless x.strip x.term u e (clear_post d x.posts) (clear_words named d xs) low, g) ih)
    (λ m. rw (m, g) ih))

-- an edit leaves its score where it touches, and all else as before
pub stored-applied : (x : Edit) (u e : ℕ) (ws : List Word) → Ordered 0 ws → stored u e (applied x ws) ≡ cond (touches x u e) (left_score x) (stored u e ws)
unfolding applied
stored-applied (Set t d w) u e ws ok = stored-set 0 t d w u e ws ok
stored-applied (Clear t d) u e ws ok = stored-clear (only t) 0 d u e ws ok
stored-applied (Withdraw d) u e ws ok = stored-clear every 0 d u e ws ok
