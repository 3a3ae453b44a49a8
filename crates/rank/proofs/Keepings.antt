-- A whole keeper: its hits in the first rows, and what lies past them. Assumes nothing.
use Prim.Native.Nat.{ℕ, suc, ◌+◌, ◌-◌, ◌≤◌}
use mathlib.Core.Path.{◌≡◌, refl, sym, ap, ◌∙◌}
use mathlib.Core.List.{List, [], ◌∷◌, ◌++◌}
use native.Mathlib.Omega.{arith}
use lib.ListN.{length, take, drop, length-take, take-append-drop}
use lib.Seq.{drop_at, drop-drop, length-take-le}
use Rattle.model.specs.Post.{docs, scores, postings}
use Rattle.model.proofs.Lists.{split, map-length}
use Rattle.rank.specs.Rank.{Hit, ahead, insert, keep, keeps}
use Rattle.rank.specs.Keep.{kept_of, kept_on}
use Rattle.rank.specs.declared.keep.Kept.{Kept}
use Rattle.rank.proofs.Rows.{rows-length, scores-rows, docs-rows}

-- runs that end alike from n on end alike from any later place on
pub drop-on : (n m : ℕ) (a b : List ℕ) → n ≤ m → drop n a ≡ drop n b → drop m a ≡ drop m b
drop-on n m a b l e =
    let q : n + (m - n) ≡ m = omega arith in
    rw q at (sym (drop-drop (m - n) n a) ∙ ap (drop (m - n)) e ∙ drop-drop (m - n) n b)

-- two runs of which n rows are kept, and whose rows past them are those of a keeper
pub kept_on_lem : (t : Kept) (ds ss : List ℕ) (n : ℕ) → length ds ≡ length ss → n ≤ length ds → drop n ds ≡ drop n t.docids → drop n ss ≡ drop n t.scores
    → record { docids = ds; scores = ss; n = n } ≡ kept_on t (take n (postings ds ss))
kept_on_lem t ds ss n e l f g =
    let size : length (take n (postings ds ss)) ≡ n = length-take-le n (postings ds ss) (omega (arith, rows-length ds ss e)) in
    let a : docs (take n (postings ds ss)) ++ drop n t.docids ≡ ds = rw (docs-rows n ds ss e, sym f) (take-append-drop n ds) in
    let b : scores (take n (postings ds ss)) ++ drop n t.scores ≡ ss = rw (scores-rows n ds ss e, sym g) (take-append-drop n ss) in
    rw (size, a, b)

-- hits put over a keeper that lies over another, and that had no more
pub kept_over : (t u : Kept) (hs : List Hit) → u ≡ kept_on t (kept_of u) → length (kept_of u) ≤ length hs → kept_on u hs ≡ kept_on t hs
kept_over t u hs e l =
    let m = length (kept_of u) in
    let f : drop m u.docids ≡ drop m t.docids = ap {B = List ℕ} (λ (x : Kept). drop m x.docids) e ∙ drop_at (docs (kept_of u)) (drop m t.docids) m (map-length (λ (h : Hit). h.doc) (kept_of u)) in
    let g : drop m u.scores ≡ drop m t.scores = ap {B = List ℕ} (λ (x : Kept). drop m x.scores) e ∙ drop_at (scores (kept_of u)) (drop m t.scores) m (map-length (λ (h : Hit). h.score) (kept_of u)) in
    rw (drop-on m (length hs) u.docids t.docids l f, drop-on m (length hs) u.scores t.scores l g)

-- a keeper that is not full grows, and a full one stays so
insert-length : (h : Hit) (xs : List Hit) → length (insert h xs) ≡ suc (length xs)
insert-length h [] = refl
insert-length h (x ∷ xs) = split (ahead h x) (λ e. rw e) (λ e. rw e (ap suc (insert-length h xs)))

keep-length : (k : ℕ) (xs : List Hit) (h : Hit) → length xs ≤ k → (length xs ≤ length (keep k xs h)) × (length (keep k xs h) ≤ k)
keep-length k xs h l = omega (arith, length-take k (insert h xs), insert-length h xs)

pub keeps-length : (k : ℕ) (xs hs : List Hit) → length xs ≤ k → length xs ≤ length (keeps k xs hs)
keeps-length k xs [] l = omega arith
keeps-length k xs (h ∷ hs) l =
    let m = keep-length k xs h l in
    omega (arith, keeps-length k (keep k xs h) hs m.1)

-- a keeper over another, with more hits put over it
pub kept_more : (t u v : Kept) (k : ℕ) (hs : List Hit) → u.n ≤ k → u ≡ kept_on t (kept_of u) → kept_of v ≡ keeps k (kept_of u) hs → v ≡ kept_on u (kept_of v) → v ≡ kept_on t (kept_of v)
kept_more t u v k hs l e f g =
    g ∙ kept_over t u (kept_of v) e (rw f (keeps-length k (kept_of u) hs (omega (arith, length-take u.n (postings u.docids u.scores)))))
