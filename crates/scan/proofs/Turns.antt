-- One document of the run, in the terms of the code, and the run's state. Assumes nothing.
use Prim.Native.Nat.{ℕ, suc, ◌≤◌, ◌<◌}
use mathlib.Core.Path.{◌≡◌, refl, sym, ap, ◌∙◌}
use mathlib.Core.List.{List, [], map}
use native.Mathlib.Omega.{arith}
use lib.ListN.{length, take, drop, length-map}
use Rattle.model.specs.Limits.{max_k, max_terms}
use Rattle.model.specs.Post.{post, postings}
use Rattle.model.specs.Runs.{All}
use Rattle.rank.specs.Rank.{Hit, keep, keeps, Ordered}
use Rattle.rank.specs.Match.{any_list}
use Rattle.rank.specs.Run.{none, least_of, sum_of, pass, size, run_hits, run_left}
use Rattle.rank.specs.Keep.{kept_of, KeepsIn}
use Rattle.rank.specs.declared.keep.Kept.{Kept}
use Rattle.rank.proofs.Rows.{keep_ordered}
use Rattle.rank.proofs.Keepings.{drop-on}
use Rattle.rank.proofs.Runs.{drop_less, any_turn, run-stop, left-stop, left-turn}
use Rattle.scan.specs.Heads.{least, sum_at, InBuffers, OwnParts, step_if, terms, skip_head}
use Rattle.scan.specs.declared.head.Head.{Head}
use Rattle.scan.proofs.Terms.{least-terms, sum-terms, terms-step, step-inside, step-own, heads-step, heads-stop}

-- One document
module _ (last d : ℕ) (ds ss : List ℕ) (hs : List Head) (l : last < none) (le : d ≤ last) (p : d ≡ least hs) (i : All (InBuffers ds ss) hs) where
  at_least : least_of (terms ds ss hs) ≡ d
  at_least = sym (p ∙ least-terms ds ss hs)

  passed : pass (terms ds ss hs) ≡ terms ds ss (map (step_if ds ss d) hs)
  passed = rw at_least (sym (terms-step ds ss d hs (omega arith) i))

  pub fewer-left : size (terms ds ss (map (step_if ds ss d) hs)) < size (terms ds ss hs)
  fewer-left = rw (sym passed, at_least) (drop_less d (terms ds ss hs) at_least (omega arith))

  hits-turn : (k s : ℕ) (kept : List Hit) → s ≡ sum_at d hs
      → keeps k (keep k kept (post d s)) (run_hits any_list (size (terms ds ss (map (step_if ds ss d) hs))) last (terms ds ss (map (step_if ds ss d) hs)))
      ≡ keeps k kept (run_hits any_list (size (terms ds ss hs)) last (terms ds ss hs))
  hits-turn k s kept q =
      let u : sum_of d (terms ds ss hs) ≡ s = sym (q ∙ sum-terms ds ss d hs (omega arith)) in
      sym (ap (keeps k kept) (rw (at_least, u) at (rw passed at (any_turn last (terms ds ss hs) l (omega (arith, at_least))))))

  rest-turn : run_left (size (terms ds ss (map (step_if ds ss d) hs))) last (terms ds ss (map (step_if ds ss d) hs)) ≡ run_left (size (terms ds ss hs)) last (terms ds ss hs)
  rest-turn = sym (rw passed at (left-turn last (terms ds ss hs) l (omega (arith, at_least))))

pub run-ended : (last d : ℕ) (ds ss : List ℕ) (hs : List Head) → last < d → d ≡ least hs
    → (run_hits any_list (size (terms ds ss hs)) last (terms ds ss hs) ≡ []) × (run_left (size (terms ds ss hs)) last (terms ds ss hs) ≡ terms ds ss hs) × (map (skip_head ds ss (suc last)) hs ≡ hs)
run-ended last d ds ss hs l p =
    let e : last < least_of (terms ds ss hs) = omega (arith, p, least-terms ds ss hs) in
    (run-stop any_list (size (terms ds ss hs)) last (terms ds ss hs) e, left-stop (size (terms ds ss hs)) last (terms ds ss hs) e, heads-stop ds ss (suc last) hs (omega (arith, p)))

-- The state of the run: the kept rows, with the run over what the heads still have, give what they gave at the start
pub record Running (ds ss : List ℕ) (heads : List Head) (last k : ℕ) (t : Kept) (hs : List Head) (best sums : List ℕ) (n : ℕ) : Type 0 where
  pub best-long : length best ≡ max_k
  pub sums-long : length sums ≡ max_k
  pub long : length hs ≡ max_terms
  pub best-past : drop n best ≡ drop n t.docids
  pub sums-past : drop n sums ≡ drop n t.scores
  pub room : n ≤ k
  pub order : Ordered (take n (postings best sums))
  pub inside : All (InBuffers ds ss) hs
  pub parts : OwnParts 0 hs
  pub moved : map (skip_head ds ss (suc last)) hs ≡ map (skip_head ds ss (suc last)) heads
  pub hits : keeps k (take n (postings best sums)) (run_hits any_list (size (terms ds ss hs)) last (terms ds ss hs)) ≡ keeps k (kept_of t) (run_hits any_list (size (terms ds ss heads)) last (terms ds ss heads))
  pub left : run_left (size (terms ds ss hs)) last (terms ds ss hs) ≡ run_left (size (terms ds ss heads)) last (terms ds ss heads)

pub running_none : (ds ss : List ℕ) (hs : List Head) (last k : ℕ) (best sums : List ℕ) (n : ℕ) → length best ≡ max_k → length sums ≡ max_k → length hs ≡ max_terms
    → n ≤ k → Ordered (take n (postings best sums)) → All (InBuffers ds ss) hs → OwnParts 0 hs → Running ds ss hs last k (record { docids = best; scores = sums; n = n }) hs best sums n
running_none ds ss hs last k best sums n a b l r o i w = record { best-long = a; sums-long = b; long = l; best-past = refl; sums-past = refl; room = r; order = o; inside = i; parts = w; moved = refl; hits = refl; left = refl }

pub running_turn : (ds ss : List ℕ) (heads : List Head) (last k : ℕ) (t : Kept) (hs : List Head) (best sums : List ℕ) (n d s : ℕ) (best' sums' : List ℕ) (r : ℕ)
    → Running ds ss heads last k t hs best sums n → last < none → d ≤ last → d ≡ least hs → s ≡ sum_at d hs → KeepsIn k n d s best sums r best' sums'
    → Running ds ss heads last k t (map (step_if ds ss d) hs) best' sums' r
running_turn ds ss heads last k t hs best sums n d s best' sums' r w l le p q e = record {
  best-long = e.docids;
  sums-long = e.scores;
  long = length-map hs (step_if ds ss d) ∙ w.long;
  best-past = e.docids-past ∙ drop-on n r best t.docids e.grows w.best-past;
  sums-past = e.scores-past ∙ drop-on n r sums t.scores e.grows w.sums-past;
  room = e.most;
  order = rw e.kept (keep_ordered k (take n (postings best sums)) (post d s) w.order);
  inside = step-inside ds ss d hs w.inside;
  parts = step-own ds ss 0 d hs w.parts;
  moved = heads-step ds ss (suc last) d hs (omega arith) (omega arith) w.inside ∙ w.moved;
  hits = rw e.kept (hits-turn last d ds ss hs l le p w.inside k s (take n (postings best sums)) q ∙ w.hits);
  left = rest-turn last d ds ss hs l le p w.inside ∙ w.left;
}
