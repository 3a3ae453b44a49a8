-- What a body that reads holds: rising postings with scores in range, none above the greatest docid; and its bytes are theirs. Assumes nothing.
use Prim.Native.Nat.{ℕ, zero, suc, ◌+◌, ◌-◌, ◌≤◌, ◌<◌}
use native.Mathlib.Omega.{arith}
use mathlib.Core.Path.{◌≡◌, refl, sym, ap, ◌∙◌}
use mathlib.Core.List.{List, [], ◌∷◌, ◌++◌}
use mathlib.Core.Bool.{Bool, true, false, false≢true}
use borrow.Author.Tests.{leb-true, eqb-true}
use lib.ListN.{length, take, drop, take-append-drop}
use lib.Seq.{drop-drop}
use lib.Dec.{leb, eqb}
use Rattle.model.specs.Post.{Post, Rising, Scored, last_doc, top_score}
use Rattle.model.specs.Runs.{Bytes}
use Rattle.model.proofs.Lists.{split, and-true, bytes_drop, bytes_take}
use Rattle.wire.specs.Read.{Read, got, stopped, further}
use Rattle.wire.specs.Gap.{gap, gap_bytes, score}
use Rattle.wire.proofs.Gaps.{gap-only, score-only}
use Rattle.block.specs.Body.{edge, score_in, wide, with_doc, gapped, posting, posts, onto, and_on, fits, body_posts, right_body, read_on, read_to, body_run, in_turn, in_strip, later_bytes, front_bytes, back_bytes, body_bytes}
use Rattle.block.specs.declared.summary.Summary.{Summary}

-- ---- one posting

-- its score, whose two bytes stand at the front of the run of its layout
abbrev Score : (strip : Bool) (d : ℕ) (g w : List ℕ) → Read Post → Type 0
Score strip d g w (got p k) =
    (p.doc ≡ d) × (g ≡ in_turn strip p.score ++ drop k g) × (w ≡ in_strip strip p.score ++ drop (wide strip) w) × (0 < p.score) × (p.score ≤ 65535)
Score strip d g w (stopped k) = Unit {0}

score-of : (strip : Bool) (d : ℕ) (g w : List ℕ) → Bytes g → Bytes w → Score strip d g w (with_doc strip d (score (score_in strip 0 g w)))
score-of true d g w hg hw = go (score w) refl
  where
    go : (r : Read ℕ) → score w ≡ r → Score true d g w (with_doc true d r)
    go (stopped k) e = tt
    go (got x k) e =
        let o = score-only w x k hw e in
        (refl, refl, o.0, o.1, omega (arith, o.2))
score-of false d g w hg hw = go (score g) refl
  where
    go : (r : Read ℕ) → score g ≡ r → Score false d g w (with_doc false d r)
    go (stopped k) e = tt
    go (got x k) e =
        let o = score-only g x k hg e in
        (refl, rw o.3 o.0, refl, o.1, omega (arith, o.2))

-- a later posting's, after docid d
abbrev Later : (strip : Bool) (greatest d : ℕ) (g w : List ℕ) → Read Post → Type 0
Later strip greatest d g w (got p k) =
    (d < p.doc) × (p.doc ≤ greatest) × (g ≡ gap_bytes (p.doc - d - 1) ++ (in_turn strip p.score ++ drop k g)) × (w ≡ in_strip strip p.score ++ drop (wide strip) w)
    × (0 < p.score) × (p.score ≤ 65535)
Later strip greatest d g w (stopped k) = Unit {0}

-- a score past k bytes of the first run is the score of what is left of it
pub score-on : (strip : Bool) (k : ℕ) (g w : List ℕ) → score_in strip k g w ≡ score_in strip 0 (drop k g) w
score-on true k g w = refl
score-on false k g w = refl

later_of : (strip : Bool) (greatest d x k : ℕ) (g w : List ℕ) (r : Read Post) → d + 1 + x ≤ greatest → g ≡ gap_bytes x ++ drop k g → Score strip (d + 1 + x) (drop k g) w r →
    Later strip greatest d g w (further k r)
later_of strip greatest d x k g w (stopped j) le e o = tt
later_of strip greatest d x k g w (got p j) le e o =
    let q : p.doc ≡ d + 1 + x = o.0 in
    let n : p.doc - d - 1 ≡ x = omega arith in
    let b : drop k g ≡ in_turn strip p.score ++ drop (k + j) g = rw (drop-drop j k g) at o.1 in
    (omega arith, omega arith, rw n (e ∙ ap (λ (l : List ℕ). gap_bytes x ++ l) b), o.2, o.3, o.4)

later : (strip : Bool) (greatest d : ℕ) (g w : List ℕ) → Bytes g → Bytes w → Later strip greatest d g w (posting strip greatest false d g w)
unfolding posting gapped
later strip greatest d g w hg hw = go (gap 4 g) refl
  where
    go : (r : Read ℕ) → gap 4 g ≡ r → Later strip greatest d g w (gapped strip greatest d g w r)
    go (stopped k) e = tt
    go (got x k) e =
        let o = gap-only 4 g x k hg (omega arith) e in
        split (leb (d + 1 + x) greatest)
        (λ t. rw (t, score-on strip k g w) (later_of strip greatest d x k g w (with_doc strip (d + 1 + x) (score (score_in strip 0 (drop k g) w))) (leb-true _ _ t) o.0 (score-of strip (d + 1 + x) (drop k g) w (bytes_drop k g hg) hw)))
        (λ t. rw t tt)

-- ---- all of them

-- the postings past one of docid e that takes k bytes of the first run; and as far as they read
abbrev rest : (strip : Bool) (greatest n : ℕ) (g w : List ℕ) (e k : ℕ) → Read (List Post)
rest strip greatest n g w e k = posts strip greatest n false e (drop k g) (drop (wide strip) w)

abbrev run : (strip : Bool) (greatest n : ℕ) (g w : List ℕ) (e k : ℕ) → List Post
run strip greatest n g w e k = read_to strip greatest n false e (drop k g) (drop (wide strip) w)

pub record Held (strip : Bool) (greatest d n : ℕ) (g w : List ℕ) (ps : List Post) : Type 0 where
  pub bytes : g ≡ later_bytes strip d ps
  pub back : w ≡ back_bytes strip ps
  pub count : length ps ≡ n
  pub rise : Rising d ps
  pub scores : Scored ps
  pub under : d ≤ greatest → last_doc d ps ≤ greatest

abbrev Holds : (strip : Bool) (greatest d n : ℕ) (g w : List ℕ) → Read (List Post) → Type 0
Holds strip greatest d n g w (got ps k) = Held strip greatest d n g w ps
Holds strip greatest d n g w (stopped k) = Unit {0}

holds_cons : (strip : Bool) (greatest d n k : ℕ) (g w : List ℕ) (p : Post) (r : Read (List Post)) → Later strip greatest d g w (got p k) → Holds strip greatest p.doc n (drop k g) (drop (wide strip) w) r →
    Holds strip greatest d (suc n) g w (further k (onto p r))
unfolding later_bytes back_bytes
holds_cons strip greatest d n k g w p (stopped j) l h = tt
holds_cons strip greatest d n k g w p (got ps j) l h =
    record {
      bytes = l.2 ∙ ap (λ (t : List ℕ). gap_bytes (p.doc - d - 1) ++ (in_turn strip p.score ++ t)) h.bytes;
      back = l.3 ∙ ap (λ (t : List ℕ). in_strip strip p.score ++ t) h.back;
      count = ap suc h.count;
      rise = (l.0, h.rise);
      scores = ((l.4, l.5), h.scores);
      under = λ x. h.under l.1;
    }

holds : (strip : Bool) (greatest n d : ℕ) (g w : List ℕ) → Bytes g → Bytes w → Holds strip greatest d n g w (posts strip greatest n false d g w)
unfolding posts later_bytes back_bytes
holds strip greatest zero d [] [] hg hw = record { bytes = refl; back = refl; count = refl; rise = tt; scores = tt; under = λ x. x }
holds strip greatest zero d [] (x ∷ w) hg hw = tt
holds strip greatest zero d (x ∷ g) w hg hw = tt
holds strip greatest (suc n) d g w hg hw =
    go (posting strip greatest false d g w) (later strip greatest d g w hg hw) (λ e k. holds strip greatest n e (drop k g) (drop (wide strip) w) (bytes_drop k g hg) (bytes_drop (wide strip) w hw))
  where
    go : (r : Read Post) → Later strip greatest d g w r → ((e k : ℕ) → Holds strip greatest e n (drop k g) (drop (wide strip) w) (rest strip greatest n g w e k)) →
        Holds strip greatest d (suc n) g w (and_on r (λ p k. rest strip greatest n g w p.doc k))
    go (stopped k) l ih = tt
    go (got p k) l ih = holds_cons strip greatest d n k g w p (rest strip greatest n g w p.doc k) l (ih p.doc k)

-- ---- the body, from its first posting, of docid d

-- by its two runs
pub record Halves (strip : Bool) (d n : ℕ) (g w : List ℕ) (ps : List Post) : Type 0 where
  pub front : g ≡ front_bytes strip ps
  pub back : w ≡ back_bytes strip ps
  pub count : length ps ≡ n
  pub rise : (prev : ℕ) → prev < d → Rising prev ps
  pub scores : Scored ps

abbrev Halved : (strip : Bool) (d n : ℕ) (g w : List ℕ) → Read (List Post) → Type 0
Halved strip d n g w (got ps k) = Halves strip d n g w ps
Halved strip d n g w (stopped k) = Unit {0}

halved_cons : (strip : Bool) (greatest d n k : ℕ) (g w : List ℕ) (p : Post) (r : Read (List Post)) → Score strip d g w (got p k) → Holds strip greatest p.doc n (drop k g) (drop (wide strip) w) r →
    Halved strip d (suc n) g w (further k (onto p r))
unfolding front_bytes back_bytes
halved_cons strip greatest d n k g w p (stopped j) o h = tt
halved_cons strip greatest d n k g w p (got ps j) o h =
    record {
      front = o.1 ∙ ap (λ (t : List ℕ). in_turn strip p.score ++ t) h.bytes;
      back = o.2 ∙ ap (λ (t : List ℕ). in_strip strip p.score ++ t) h.back;
      count = ap suc h.count;
      rise = λ prev l. (omega (arith, o.0), h.rise);
      scores = ((o.3, o.4), h.scores);
    }

halved : (strip : Bool) (greatest n d : ℕ) (g w : List ℕ) → Bytes g → Bytes w → 0 < n → Halved strip d n g w (posts strip greatest n true d g w)
unfolding posts posting
halved strip greatest zero d g w hg hw h = absurd (omega arith)
halved strip greatest (suc n) d g w hg hw h = go (with_doc strip d (score (score_in strip 0 g w))) (score-of strip d g w hg hw)
  where
    go : (r : Read Post) → Score strip d g w r → Halved strip d (suc n) g w (and_on r (λ p k. rest strip greatest n g w p.doc k))
    go (stopped k) o = tt
    go (got p k) o =
        halved_cons strip greatest d n k g w p (rest strip greatest n g w p.doc k) o (holds strip greatest n p.doc (drop k g) (drop (wide strip) w) (bytes_drop k g hg) (bytes_drop (wide strip) w hw))

-- whole
pub record Whole (strip : Bool) (d n : ℕ) (s : List ℕ) (ps : List Post) : Type 0 where
  pub bytes : s ≡ body_bytes strip ps
  pub count : length ps ≡ n
  pub rise : (prev : ℕ) → prev < d → Rising prev ps
  pub scores : Scored ps

abbrev Wholly : (strip : Bool) (d n : ℕ) → List ℕ → Read (List Post) → Type 0
Wholly strip d n s (got ps k) = Whole strip d n s ps
Wholly strip d n s (stopped k) = Unit {0}

whole_of : (strip : Bool) (d n e : ℕ) (s : List ℕ) (r : Read (List Post)) → Halved strip d n (take e s) (drop e s) r → Wholly strip d n s r
unfolding body_bytes
whole_of strip d n e s (stopped k) h = tt
whole_of strip d n e s (got ps k) h =
    record {
      bytes = sym (take-append-drop e s) ∙ ap (λ (t : List ℕ). t ++ drop e s) h.front ∙ ap (λ (t : List ℕ). front_bytes strip ps ++ t) h.back;
      count = h.count;
      rise = h.rise;
      scores = h.scores;
    }

-- ---- what is read into a run, where all is read

abbrev Same : Read (List Post) → List Post → Type 0
Same (got ps k) qs = qs ≡ ps
Same (stopped k) qs = Unit {0}

same_cons : (p : Post) (k : ℕ) (r : Read (List Post)) (qs : List Post) → Same r qs → Same (further k (onto p r)) (p ∷ qs)
same_cons p k (got ps j) qs e = ap {B = List Post} (λ l. p ∷ l) e
same_cons p k (stopped j) qs e = tt

same : (strip : Bool) (greatest n : ℕ) (first : Bool) (d : ℕ) (g w : List ℕ) → Same (posts strip greatest n first d g w) (read_to strip greatest n first d g w)
unfolding posts read_to
same strip greatest zero first d [] [] = refl
same strip greatest zero first d [] (b ∷ w) = tt
same strip greatest zero first d (b ∷ g) w = tt
same strip greatest (suc n) first d g w = go (posting strip greatest first d g w) (λ e k. same strip greatest n false e (drop k g) (drop (wide strip) w))
  where
    go : (r : Read Post) → ((e k : ℕ) → Same (rest strip greatest n g w e k) (run strip greatest n g w e k)) → Same (and_on r (λ p k. rest strip greatest n g w p.doc k)) (read_on r (λ p k. run strip greatest n g w p.doc k))
    go (stopped k) ih = tt
    go (got p k) ih = same_cons p k (rest strip greatest n g w p.doc k) (run strip greatest n g w p.doc k) (ih p.doc k)

pub run-all : (m : Summary) (s : List ℕ) (ps : List Post) (k : ℕ) → body_posts m s ≡ got ps k → body_run m s ≡ ps
unfolding body_posts body_run
run-all m s ps k e =
    let x = edge m.strip m.count s in
    rw e at (same m.strip m.greatest m.count true m.least (take x s) (drop x s))

-- ---- as many as the summary says

abbrev Counted : ℕ → Read (List Post) → Type 0
Counted n (got ps k) = length ps ≡ n
Counted n (stopped k) = Unit {0}

counted_cons : (n : ℕ) (p : Post) (k : ℕ) (r : Read (List Post)) → Counted n r → Counted (suc n) (further k (onto p r))
counted_cons n p k (got ps j) e = ap suc e
counted_cons n p k (stopped j) e = tt

counted : (strip : Bool) (greatest n : ℕ) (first : Bool) (d : ℕ) (g w : List ℕ) → Counted n (posts strip greatest n first d g w)
unfolding posts
counted strip greatest zero first d [] [] = refl
counted strip greatest zero first d [] (b ∷ w) = tt
counted strip greatest zero first d (b ∷ g) w = tt
counted strip greatest (suc n) first d g w = go (posting strip greatest first d g w) (λ e k. counted strip greatest n false e (drop k g) (drop (wide strip) w))
  where
    go : (r : Read Post) → ((e k : ℕ) → Counted n (rest strip greatest n g w e k)) → Counted (suc n) (and_on r (λ p k. rest strip greatest n g w p.doc k))
    go (stopped k) ih = tt
    go (got p k) ih = counted_cons n p k (rest strip greatest n g w p.doc k) (ih p.doc k)

all_counted : (m : Summary) (s : List ℕ) → Counted m.count (body_posts m s)
unfolding body_posts
all_counted m s =
    let x = edge m.strip m.count s in
    counted m.strip m.greatest m.count true m.least (take x s) (drop x s)

-- a right body is read whole
pub right-run : (m : Summary) (s : List ℕ) → right_body m s ≡ true → (k : ℕ) × (body_posts m s ≡ got (body_run m s) k) × (length (body_run m s) ≡ m.count)
unfolding right_body
right-run m s e = go (body_posts m s) refl (all_counted m s) e
  where
    go : (r : Read (List Post)) → body_posts m s ≡ r → Counted m.count r → fits m.greatest m.top 0 0 r ≡ true → (k : ℕ) × (body_posts m s ≡ got (body_run m s) k) × (length (body_run m s) ≡ m.count)
    go (stopped k) q w f = absurd (false≢true f)
    go (got ps k) q w f =
        let e : body_run m s ≡ ps = run-all m s ps k q in
        (k, rw e q, rw e w)

-- ---- a right body: its postings, which are what its summary says, and whose bytes it is

pub record Right (m : Summary) (s : List ℕ) : Type 0 where
  pub posts : List Post
  pub taken : ℕ
  pub reads : body_posts m s ≡ got posts taken
  pub whole : Whole m.strip m.least m.count s posts
  pub last : last_doc 0 posts ≡ m.greatest
  pub top : top_score 0 posts ≡ m.top

all : (m : Summary) (s : List ℕ) → Bytes s → 0 < m.count → Wholly m.strip m.least m.count s (body_posts m s)
unfolding body_posts
all m s b h =
    let x = edge m.strip m.count s in
    whole_of m.strip m.least m.count x s (posts m.strip m.greatest m.count true m.least (take x s) (drop x s))
    (halved m.strip m.greatest m.count m.least (take x s) (drop x s) (bytes_take x s b) (bytes_drop x s b) h)

pub right-body : (m : Summary) (s : List ℕ) → Bytes s → 0 < m.count → right_body m s ≡ true → Right m s
unfolding right_body
right-body m s b h e = go (body_posts m s) refl (all m s b h) e
  where
    go : (r : Read (List Post)) → body_posts m s ≡ r → Wholly m.strip m.least m.count s r → fits m.greatest m.top 0 0 r ≡ true → Right m s
    go (stopped k) q w f = absurd (false≢true f)
    go (got ps k) q w f =
        let t = and-true (eqb (last_doc 0 ps) m.greatest) _ f in
        record { posts = ps; taken = k; reads = q; whole = w; last = eqb-true _ _ t.0; top = eqb-true _ _ t.1 }
