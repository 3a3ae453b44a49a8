-- The turns of the loop over intervals: skip, open, stop; the reading places kept; and the count of blocks opened. Assumes nothing.
use Prim.Native.Nat.{ℕ, suc, ◌+◌, ◌≤◌, ◌<◌}
use mathlib.Core.Path.{◌≡◌, refl, sym, ap, ◌∙◌}
use mathlib.Core.Bool.{true, false, false≢true, ◌||◌, cond}
use mathlib.Core.Option.{none, some}
use mathlib.Core.List.{List, [], ◌∷◌, ◌++◌, map, append_assoc, append-nil}
use native.Mathlib.Omega.{arith}
use native.Mathlib.Numerals.{add-one}
use lib.Dec.{ltb, eqb}
use lib.ListN.{length, take, drop, get_or, set, drop_of_length-le}
use lib.Seq.{drop-cons, take-suc-set}
use borrow.Author.Tests.{lt-leb, ltb-true, ltb-false, lt-ltb, le-ltb, eqb-true, eqb-false, eq-eqb, ne_eqb}
use Rattle.model.specs.Post.{docs}
use Rattle.model.specs.Outcome.{Outcome, refused, done}
use Rattle.model.specs.Runs.{All, Asc}
use Rattle.model.proofs.Lists.{split, both_ways, or_false, or_assoc}
use Rattle.rank.specs.Rank.{Hit, keeps}
use Rattle.rank.specs.Match.{Term, Rule, hits_of, within}
use Rattle.rank.specs.Run.{none as no_docid, skip_term, size, run_hits}
use Rattle.rank.proofs.Matches.{inside-first, inside-last, inside_in}
use Rattle.rank.proofs.Hits.{run-within, skip_skip}
use Rattle.prune.specs.Cut.{Block, Listing, meets, Rises}
use Rattle.prune.specs.Search.{Span, opens, step, search_from, search, mark, marks_from, marks}
use Rattle.prune.specs.Prune.{body_at, terms_at, met_by, count_in}
use Rattle.prune.specs.Loop.{met_index, Searching, Standing, Entered}
use Rattle.prune.proofs.Searches.{marks-past}

-- Before the first interval, and past the last
pub searching_none : (k : ℕ) (ss : List Span) (row : List ℕ) → Searching k ss 0 [] row
searching_none k ss row = record { answer = refl; book = refl }

pub searching_done : (k : ℕ) (ss : List Span) (i : ℕ) (kept : List Hit) (row : List ℕ) → Searching k ss i kept row → length ss ≤ i
    → (search k ss ≡ done kept) × (marks k ss ≡ take i row)
searching_done k ss i kept row w l =
    (w.answer ∙ rw (drop_of_length-le ss l), w.book ∙ rw (drop_of_length-le ss l) (append-nil (take i row)))

module _ (k : ℕ) (ss : List Span) (i : ℕ) (kept : List Hit) (row : List ℕ) (z s : Span) (w : Searching k ss i kept row) (l : i < length ss) (r : i < length row) (at : get_or ss i z ≡ s) where
  rest : drop i ss ≡ s ∷ drop (suc i) ss
  rest = drop-cons ss i z l ∙ ap {B = List Span} (λ t. t ∷ drop (suc i) ss) at

  -- any turn
  onward : (next : Outcome (List Hit)) → step k (done kept) s ≡ next → search k ss ≡ search_from k next (drop (suc i) ss)
  onward next e = w.answer ∙ ap (search_from k (done kept)) rest ∙ ap {B = Outcome (List Hit)} (λ t. search_from k t (drop (suc i) ss)) e

  marked : (next : Outcome (List Hit)) (v : ℕ) → step k (done kept) s ≡ next → mark k (done kept) s ≡ v → marks k ss ≡ take i row ++ v ∷ marks_from k next (drop (suc i) ss)
  marked next v e m =
      w.book
      ∙ ap {B = List ℕ} (λ t. take i row ++ marks_from k (done kept) t) rest
      ∙ ap {B = List ℕ} (λ t. take i row ++ t ∷ marks_from k (step k (done kept) s) (drop (suc i) ss)) m
      ∙ ap {B = List ℕ} (λ t. take i row ++ v ∷ marks_from k t (drop (suc i) ss)) e

  -- one that does not stop
  turn : (kept' : List Hit) (v : ℕ) → step k (done kept) s ≡ done kept' → mark k (done kept) s ≡ v → Searching k ss (i + 1) kept' (set row i v)
  turn kept' v e m = record {
    answer = rw (add-one i) (onward (done kept') e);
    book = rw (add-one i, take-suc-set row i v r) (marked (done kept') v e m ∙ sym (append_assoc (take i row) (v ∷ []) (marks_from k (done kept') (drop (suc i) ss))));
  }

  pub searching_skip : opens k kept s ≡ false → Searching k ss (i + 1) kept (set row i 0)
  searching_skip o = turn kept 0 (rw o) (rw o)

  pub searching_open : opens k kept s ≡ true → s.fault ≡ none → Searching k ss (i + 1) (keeps k kept s.hits) (set row i 1)
  searching_open o f = turn (keeps k kept s.hits) 1 (rw (o, f)) (rw (o, f))

  -- the search stops: 2 here, 3 at all that follow
  pub searching_stop : (a : ℕ) → opens k kept s ≡ true → s.fault ≡ some a → (search k ss ≡ refused 8 a) × (marks k ss ≡ take i row ++ 2 ∷ map (λ t. 3) (drop (suc i) ss))
  searching_stop a o f =
      let e : step k (done kept) s ≡ refused 8 a = rw (o, f) in
      (onward (refused 8 a) e ∙ stopped k 8 a (drop (suc i) ss), marked (refused 8 a) 2 e (rw (o, f)) ∙ ap {B = List ℕ} (λ t. take i row ++ 2 ∷ t) (marks-past k 8 a (drop (suc i) ss)))
    where
      stopped : (k n a : ℕ) (ts : List Span) → search_from k (refused n a) ts ≡ refused n a
      stopped k n a [] = refl
      stopped k n a (t ∷ ts) = stopped k n a ts

-- THE READING PLACES KEPT
-- a block that is met again has the same body
pub same_body : (bs : List Block) (q d : ℕ) → met_index bs q ≡ met_index bs d → body_at bs q ≡ body_at bs d
same_body [] q d e = refl
same_body (b ∷ bs) q d e =
    split (meets b q)
    (λ s. split (meets b d) (λ t. rw (s, t)) (λ t. absurd (let n : 0 ≡ suc (met_index bs d) = rw (s, t) at e in omega arith)))
    (λ s. split (meets b d)
    (λ t. absurd (let n : suc (met_index bs q) ≡ 0 = rw (s, t) at e in omega arith))
    (λ t. let n : suc (met_index bs q) ≡ suc (met_index bs d) = rw (s, t) at e in rw (s, t) (same_body bs q d (omega arith))))

-- lists that stand alike from an interval's first docid on have the same hits in it
pub entered-hits : (m : Rule) (ls : List Listing) (first last : ℕ) (us : List Term) → last < no_docid → Entered ls first us
    → All (λ t. Asc 0 (docs t.posts)) (terms_at ls first) → within first last (hits_of m us) ≡ within first last (hits_of m (terms_at ls first))
entered-hits m ls first last us l e a =
    sym (run-within m first last us l e.rising)
    ∙ ap {B = List Hit} (λ t. run_hits m (size t) last t) e.same
    ∙ run-within m first last (terms_at ls first) l a

-- and past it stand where lists opened anew would stand
pub entered-left : (ls : List Listing) (first last : ℕ) (us vs : List Term) → first ≤ suc last → Entered ls first us → vs ≡ map (skip_term (suc last)) us
    → Standing ls first (suc last) vs
entered-left ls first last us vs l e v = record {
  same =
      v
      ∙ sym (skip_skip first (suc last) us l)
      ∙ ap (map (skip_term (suc last))) e.same
      ∙ skip_skip first (suc last) (terms_at ls first) l;
}

-- THE BLOCKS OPENED, each once: past the interval that begins at `q`, which was opened last, one that begins at `d` opens a block of a list
-- exactly where the block that `d` meets is not the one that `q` meets
met_by_snoc : (los : List ℕ) (d : ℕ) (b : Block) → met_by (los ++ (d ∷ [])) b ≡ (met_by los b || meets b d)
met_by_snoc [] d b = or_false (meets b d)
met_by_snoc (o ∷ los) d b = rw (met_by_snoc los d b) (sym (or_assoc (meets b o) (met_by los b) (meets b d)))

-- a block that an earlier docid meets and a later one too is met by all between
met-between : (los : List ℕ) (q d : ℕ) (b : Block) → All (λ o. o ≤ q) los → q ≤ d → met_by los b ≡ true → meets b d ≡ true → meets b q ≡ true
met-between [] q d b a l h m = absurd (false≢true h)
met-between (o ∷ los) q d b a l h m =
    split (meets b o)
    (λ e. inside_in b.least b.greatest q (omega (arith, inside-first b.least b.greatest o e, a.0)) (omega (arith, inside-last b.least b.greatest d m)))
    (λ e. met-between los q d b a.1 l (rw e at h) m)

-- in a list whose blocks rise, no later block is met
met-none : (n d : ℕ) (bs : List Block) → d ≤ n → Rises n bs → (los : List ℕ) → count_in (los ++ (d ∷ [])) bs ≡ count_in los bs
met-none n d [] l r los = refl
met-none n d (b ∷ bs) l r los =
    let off : meets b d ≡ false = rw (lt-leb b.least d (omega (arith, r.0))) in
    rw (met_by_snoc los d b, off, or_false (met_by los b), met-none b.greatest d bs (omega (arith, r.0, r.1)) r.2 los)

-- whether a list opens a block
abbrev pub opens_one : List Block → ℕ → ℕ → ℕ
opens_one bs q d = cond (ltb (met_index bs d) (length bs)) (cond (eqb (met_index bs q) (met_index bs d)) 0 1) 0

ltb-suc : (a b : ℕ) → ltb (suc a) (suc b) ≡ ltb a b
ltb-suc a b = split (ltb a b) (λ e. lt-ltb (suc a) (suc b) (omega (arith, ltb-true a b e)) ∙ sym e) (λ e. le-ltb (suc a) (suc b) (omega (arith, ltb-false a b e)) ∙ sym e)

eqb-suc : (a b : ℕ) → eqb (suc a) (suc b) ≡ eqb a b
eqb-suc a b = split (eqb a b) (λ e. eq-eqb (suc a) (suc b) (omega (arith, eqb-true a b e)) ∙ sym e) (λ e. ne_eqb (suc a) (suc b) (λ q. eqb-false a b e (omega arith)) ∙ sym e)

index_none : (n d : ℕ) (bs : List Block) → d ≤ n → Rises n bs → met_index bs d ≡ length bs
index_none n d [] l r = refl
index_none n d (b ∷ bs) l r = rw (lt-leb b.least d (omega (arith, r.0))) (ap suc (index_none b.greatest d bs (omega (arith, r.0, r.1)) r.2))

pub count_snoc : (n q d : ℕ) (bs : List Block) (los : List ℕ) → Rises n bs → All (λ o. o ≤ q) los → q ≤ d → ((b : Block) → meets b q ≡ true → met_by los b ≡ true)
    → count_in (los ++ (d ∷ [])) bs ≡ count_in los bs + opens_one bs q d
count_snoc n q d [] los r a l f = refl
count_snoc n q d (b ∷ bs) los r a l f =
    split (meets b d)
    (λ m. let same : count_in (los ++ (d ∷ [])) bs ≡ count_in los bs = met-none b.greatest d bs (inside-last b.least b.greatest d m) r.2 los in
    let some : ltb 0 (suc (length bs)) ≡ true = lt-ltb 0 (suc (length bs)) (omega arith) in
    split (meets b q)
    (λ e. rw (met_by_snoc los d b, f b e, m, e, some, same) (omega arith))
    (λ e. let old : met_by los b ≡ false = split (met_by los b) (λ h. both_ways (meets b q) (met-between los q d b a l h m) e) (λ h. h) in
    rw (met_by_snoc los d b, old, m, e, some, ne_eqb (suc (met_index bs q)) 0 (omega arith), same) (omega arith)))
    (λ m. let rest : count_in (los ++ (d ∷ [])) bs ≡ count_in los bs + opens_one bs q d = count_snoc b.greatest q d bs los r.2 a l f in
    split (meets b q)
    (λ e. let gone : met_index bs q ≡ length bs = index_none b.greatest q bs (inside-last b.least b.greatest q e) r.2 in
    rw (met_by_snoc los d b, m, or_false (met_by los b), e, ltb-suc (met_index bs d) (length bs), ne_eqb 0 (suc (met_index bs d)) (omega arith), rest)
    (split (ltb (met_index bs d) (length bs))
    (λ s. rw (s, ne_eqb (met_index bs q) (met_index bs d) (omega (arith, gone, ltb-true (met_index bs d) (length bs) s))) (omega arith))
    (λ s. rw s (omega arith))))
    (λ e. rw (met_by_snoc los d b, m, or_false (met_by los b), e, ltb-suc (met_index bs d) (length bs), eqb-suc (met_index bs q) (met_index bs d), rest) (omega arith)))
