-- A docid sought in rising postings, read one after another or block after block. Assumes nothing.
use Prim.Native.Nat.{ℕ, ◌-◌, ◌≤◌, ◌<◌}
use native.Mathlib.Omega.{arith}
use mathlib.Core.Path.{◌≡◌, refl, sym, ap, ◌∙◌}
use mathlib.Core.List.{List, [], ◌∷◌, ◌++◌}
use mathlib.Core.Bool.{true, false, ◌&&◌}
use borrow.Author.Tests.{ne_eqb, eqb-true}
use lib.Dec.{eqb}
use lib.ListN.{take, drop}
use Rattle.model.specs.Post.{Post, post, docs, Rising, last_doc, top_score}
use Rattle.model.specs.Runs.{has}
use Rattle.model.proofs.Lists.{and-true, or_false}
use Rattle.model.proofs.Runs.{has-append}
use Rattle.model.proofs.Posts.{rising-last, rising-append}
use Rattle.block.specs.Body.{body_run, right_body}
use Rattle.block.specs.Cursor.{fresh, step_at, run_at}
use Rattle.block.specs.declared.summary.Summary.{Summary}
use Rattle.block.specs.declared.cursor.Cursor.{Cursor}
use Rattle.block.specs.declared.cursor.Step.TheVariants.{Posting}
use Rattle.block.proofs.Bodies.{front, back, run-fresh}
use Rattle.block.proofs.Steps.{run-posting}
use Rattle.block.proofs.Contents.{right-run}
use Rattle.shelf.specs.Walk.{Block, blocks_at, posts_of}
use Rattle.shelf.specs.Check.{bad_body}
use Rattle.shelf.specs.Blocks.{reading_of, blocks_left, Rests, Finds}
use Rattle.shelf.specs.declared.walk.Place.{Place}
use Rattle.std.specs.Prelude.{None}
use Rattle.shelf.specs.declared.blocks.Reading.{Reading}
use Rattle.shelf.proofs.Readings.{start-rests, start_left_lem}
use Rattle.list.proofs.Pours.{right-more, right-posts}
use Rattle.edit.specs.Left.{posts_at, Sought}
use Rattle.change.proofs.Postings.{rising_less}
use Rattle.change.proofs.Runnings.{docs-append, rising-free}

-- ---- rising postings

-- those that are left rise, and hold docid d where all do
pub record Seeking (d : ℕ) (all rest : List Post) : Type 0 where
  pub rise : Rising 0 rest
  pub same : has d (docs all) ≡ has d (docs rest)

-- postings that end below it do not hold it
passed : (n d : ℕ) (ps : List Post) → Rising n ps → last_doc n ps < d → has d (docs ps) ≡ false
passed n d [] r l = refl
passed n d (p ∷ ps) r l =
    rw (ne_eqb d p.doc (λ (e : d ≡ p.doc). omega (arith, rising-last p.doc ps r.1))) (passed p.doc d ps r.1 l)

module _ {d : ℕ} {all rest : List Post} (xs ys : List Post) (e : rest ≡ xs ++ ys) (k : Seeking d all rest) where
  parts : Rising 0 xs × Rising (last_doc 0 xs) ys
  parts = rising-append 0 xs ys (rw e at k.rise)

  in_parts : has d (docs all) ≡ has d (docs xs ++ docs ys)
  in_parts = k.same ∙ ap (λ (l : List Post). has d (docs l)) e ∙ ap (λ (l : List ℕ). has d l) (docs-append xs ys)

  pub seek-rise : Rising 0 xs
  seek-rise = parts.0

  -- past postings that end below it, it is sought in the others
  pub seek-on : last_doc 0 xs < d → Seeking d all ys
  seek-on l =
      record {
        rise = rising_less 0 (last_doc 0 xs) ys (omega arith) parts.1;
        same = in_parts ∙ has-append d (docs xs) (docs ys) ∙ rw (passed 0 d xs parts.0 l);
      }

  -- postings that do not end below it hold it, or none does
  pub seek-here : d ≤ last_doc 0 xs → has d (docs all) ≡ has d (docs xs)
  seek-here l = in_parts ∙ has-append d (docs xs) (docs ys) ∙ rw (rising-free (last_doc 0 xs) d ys l parts.1) (or_false (has d (docs xs)))

pub seek-none : {d : ℕ} {all rest : List Post} → rest ≡ [] → Seeking d all rest → has d (docs all) ≡ false
seek-none {d} e k = k.same ∙ ap (λ (l : List Post). has d (docs l)) e

-- ---- a body's postings, by the cursor's steps

module _ (d : ℕ) (m : Summary) (s g w : List ℕ) (c : Cursor) (a : g ≡ front m s) (b : w ≡ back m s) (e : c ≡ fresh m) where
  start-run : run_at g w c ≡ body_run m s
  start-run = rw (a, b, e) (sym (run-fresh m s))

  pub body-all : has d (docs (run_at g w c)) ≡ has d (docs (body_run m s))
  body-all = ap (λ (l : List Post). has d (docs l)) start-run

  pub body-start : Rising 0 (body_run m s) → Seeking d (run_at g w c) (run_at g w c)
  body-start r = record { rise = rw start-run r; same = refl }

module _ {d : ℕ} {all : List Post} (g w : List ℕ) (c : Cursor) (x y : ℕ) (next : Cursor) (e : step_at g w c ≡ Posting x y next) (k : Seeking d all (run_at g w c)) where
  one : run_at g w c ≡ (post x y ∷ []) ++ run_at g w next
  one = run-posting g w c x y next e

  pub body-on : x < d → Seeking d all (run_at g w next)
  body-on l = seek-on (post x y ∷ []) (run_at g w next) one k l

  pub body-here : d ≤ x → has d (docs all) ≡ eqb d x
  body-here l = seek-here (post x y ∷ []) (run_at g w next) one k l ∙ or_false (eqb d x)

-- ---- a list's postings, block after block

-- the last posting of a right body has the summary's greatest docid
right-last : (m : Summary) (s : List ℕ) → right_body m s ≡ true → last_doc 0 (body_run m s) ≡ m.greatest
unfolding right_body
right-last m s e =
    let ps = body_run m s in
    let f : (eqb (last_doc 0 ps) m.greatest && eqb (top_score 0 ps) m.top) ≡ true = rw (right-run m s e).1 at e in
    eqb-true _ _ (and-true (eqb (last_doc 0 ps) m.greatest) (eqb (top_score 0 ps) m.top) f).0

-- no body that is left is wrong, and the docid is sought in their postings
pub record Looking (s : List ℕ) (d : ℕ) (all : List Block) (r : Reading) : Type 0 where
  pub rests : Rests s r
  pub right : bad_body (blocks_left s r) ≡ None
  pub seeks : Seeking d (posts_of all) (posts_of (blocks_left s r))

pub look-start : (s : List ℕ) (d : ℕ) (p : Place) (r : Reading) → Sought s p → r ≡ reading_of p → Looking s d (blocks_left s r) r
look-start s d p r h e =
    let same : blocks_left s r ≡ blocks_at s p.at p.count = rw e (start_left_lem s p) in
    record { rests = rw e (start-rests s p h.ready); right = rw same h.right; seeks = record { rise = rw same h.rise; same = refl } }

-- the postings of the body from v to e
abbrev pub run_in : List ℕ → Summary → (v e : ℕ) → List Post
run_in s m v e = body_run m (take (e - v) (drop v s))

module _ (s : List ℕ) (d : ℕ) (all : List Block) (r : Reading) (b : Block) (v e : ℕ) (next : Reading) (m : Summary) (q : b.sum ≡ m) (f : Finds s r b v e next) (k : Looking s d all r) where
  good : (right_body b.sum b.body ≡ true) × (bad_body (blocks_left s next) ≡ None)
  good = right-more b (blocks_left s next) (rw f.left at k.right)

  found : body_run b.sum b.body ≡ run_in s m v e
  found = rw (q, f.body)

  first : posts_of (blocks_left s r) ≡ run_in s m v e ++ posts_of (blocks_left s next)
  first = ap posts_of f.left ∙ (right-posts b (blocks_left s next) good.0).0 ∙ ap (λ (l : List Post). l ++ posts_of (blocks_left s next)) found

  last : last_doc 0 (run_in s m v e) ≡ m.greatest
  last = ap (λ (l : List Post). last_doc 0 l) (sym found) ∙ right-last b.sum b.body good.0 ∙ ap (λ (x : Summary). x.greatest) q

  pub look-rise : Rising 0 (run_in s m v e)
  look-rise = seek-rise (run_in s m v e) (posts_of (blocks_left s next)) first k.seeks

  pub look-on : m.greatest < d → Looking s d all next
  look-on l = record { rests = f.rests; right = good.1; seeks = seek-on (run_in s m v e) (posts_of (blocks_left s next)) first k.seeks (omega (arith, last)) }

  pub look-here : d ≤ m.greatest → has d (docs (posts_of all)) ≡ has d (docs (run_in s m v e))
  look-here l = seek-here (run_in s m v e) (posts_of (blocks_left s next)) first k.seeks (omega (arith, last))

-- the blocks from the start are the list's
pub look-all : (s : List ℕ) (d : ℕ) (p : Place) (r : Reading) → r ≡ reading_of p → has d (docs (posts_of (blocks_left s r))) ≡ has d (docs (posts_at s p))
look-all s d p r e = rw e (ap (λ (l : List Block). has d (docs (posts_of l))) (start_left_lem s p))
