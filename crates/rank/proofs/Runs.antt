-- The run's turn: one document, and the lists past it. Assumes nothing.
use Prim.Native.Nat.{ℕ, zero, suc, ◌≤◌, ◌<◌}
use mathlib.Core.Path.{◌≡◌, refl, sym, ap, ◌∙◌}
use mathlib.Core.Bool.{true, cond}
use mathlib.Core.List.{List, [], ◌∷◌, map}
use native.Mathlib.Omega.{arith}
use lib.ListN.{length}
use lib.Dec.{eqb, ltb}
use borrow.Author.Tests.{eq-eqb, eqb-true, eqb-false, ltb-true, ltb-false, lt-ltb, le-ltb}
use Rattle.model.specs.Post.{Post, post}
use Rattle.model.proofs.Lists.{split, or_true}
use Rattle.rank.specs.Rank.{Hit}
use Rattle.rank.specs.Match.{Term, Rule, some, any_list}
use Rattle.rank.specs.Run.{none, head_doc, drop_at, least_of, sum_of, stand_at, drop_term, pass, size, run_hits, run_left}

least_of-top : (ts : List Term) → least_of ts ≤ none
least_of-top [] = omega arith
least_of-top (t ∷ ts) = omega (arith, least_of-top ts)

-- Each turn drops a posting
post_le : (d : ℕ) (ps : List Post) → length (drop_at d ps) ≤ length ps
post_le d [] = omega arith
post_le d (p ∷ ps) = split (eqb p.doc d) (λ e. rw e (omega arith)) (λ e. rw e (omega arith))

post_less : (d : ℕ) (ps : List Post) → head_doc ps ≡ d → d < none → length (drop_at d ps) < length ps
post_less d [] e l = absurd (omega arith)
post_less d (p ∷ ps) e l = rw (eq-eqb p.doc d e) (omega arith)

drop_le : (d : ℕ) (ts : List Term) → size (map (drop_term d) ts) ≤ size ts
drop_le d [] = omega arith
drop_le d (t ∷ ts) = omega (arith, post_le d t.posts, drop_le d ts)

pub drop_less : (d : ℕ) (ts : List Term) → least_of ts ≡ d → d < none → size (map (drop_term d) ts) < size ts
drop_less d [] e l = absurd (omega arith)
drop_less d (t ∷ ts) e l =
    split (eqb (head_doc t.posts) d)
    (λ q. omega (arith, post_less d t.posts (eqb-true _ _ q) l, drop_le d ts))
    (λ q. let m : least_of ts ≡ d = omega (arith, eqb-false (head_doc t.posts) d q) in omega (arith, post_le d t.posts, drop_less d ts m l))

pub empty_least : (ts : List Term) → size ts ≤ 0 → least_of ts ≡ none
empty_least ts z =
    split (ltb (least_of ts) none)
    (λ e. absurd (omega (arith, drop_less (least_of ts) ts refl (ltb-true _ _ e))))
    (λ e. omega (arith, least_of-top ts, ltb-false (least_of ts) none e))

-- some list stands at the smallest docid
pub stand-least : (d : ℕ) (ts : List Term) → least_of ts ≡ d → d < none → some (stand_at d ts) ≡ true
stand-least d [] e l = absurd (omega arith)
stand-least d (t ∷ ts) e l =
    split (eqb (head_doc t.posts) d)
    (λ q. rw q)
    (λ q. rw (stand-least d ts (omega (arith, eqb-false (head_doc t.posts) d q)) l) (or_true (eqb (head_doc t.posts) d)))

-- The hits
module _ (m : Rule) where
  abbrev here : List Term → List Hit → List Hit
  here ts rest = cond (m (stand_at (least_of ts) ts) (least_of ts)) (post (least_of ts) (sum_of (least_of ts) ts) ∷ rest) rest

  pub run-stop : (f last : ℕ) (ts : List Term) → last < least_of ts → run_hits m f last ts ≡ []
  run-stop zero last ts l = refl
  run-stop (suc f) last ts l = rw (lt-ltb last (least_of ts) l)

  -- more fuel than there are postings changes nothing
  run_fuel : (f g last : ℕ) (ts : List Term) → last < none → size ts ≤ f → size ts ≤ g → run_hits m f last ts ≡ run_hits m g last ts
  run_fuel zero g last ts l a b = sym (run-stop g last ts (omega (arith, empty_least ts a)))
  run_fuel (suc f) zero last ts l a b = run-stop (suc f) last ts (omega (arith, empty_least ts b))
  run_fuel (suc f) (suc g) last ts l a b =
      split (ltb last (least_of ts))
      (λ e. rw e)
      (λ e. let less : size (pass ts) < size ts = drop_less (least_of ts) ts refl (omega (arith, ltb-false last (least_of ts) e)) in
      rw e (ap (here ts) (run_fuel f g last (pass ts) l (omega arith) (omega arith))))

  pub run-turn : (last : ℕ) (ts : List Term) → last < none → least_of ts ≤ last → run_hits m (size ts) last ts ≡ here ts (run_hits m (size (pass ts)) last (pass ts))
  run-turn last ts l le =
      let less : size (pass ts) < size ts = drop_less (least_of ts) ts refl (omega arith) in
      run_fuel (size ts) (suc (size ts)) last ts l (omega arith) (omega arith)
      ∙ rw (le-ltb last (least_of ts) le) (ap (here ts) (run_fuel (size ts) (size (pass ts)) last (pass ts) l (omega arith) (omega arith)))

-- where a sheet matches when some list holds it, each document is a hit
pub any_turn : (last : ℕ) (ts : List Term) → last < none → least_of ts ≤ last
    → run_hits any_list (size ts) last ts ≡ post (least_of ts) (sum_of (least_of ts) ts) ∷ run_hits any_list (size (pass ts)) last (pass ts)
any_turn last ts l le = run-turn any_list last ts l le ∙ rw (stand-least (least_of ts) ts refl (omega arith))

-- What is left
pub left-stop : (f last : ℕ) (ts : List Term) → last < least_of ts → run_left f last ts ≡ ts
left-stop zero last ts l = refl
left-stop (suc f) last ts l = rw (lt-ltb last (least_of ts) l)

left_fuel : (f g last : ℕ) (ts : List Term) → last < none → size ts ≤ f → size ts ≤ g → run_left f last ts ≡ run_left g last ts
left_fuel zero g last ts l a b = sym (left-stop g last ts (omega (arith, empty_least ts a)))
left_fuel (suc f) zero last ts l a b = left-stop (suc f) last ts (omega (arith, empty_least ts b))
left_fuel (suc f) (suc g) last ts l a b =
    split (ltb last (least_of ts))
    (λ e. rw e)
    (λ e. let less : size (pass ts) < size ts = drop_less (least_of ts) ts refl (omega (arith, ltb-false last (least_of ts) e)) in
    rw e (left_fuel f g last (pass ts) l (omega arith) (omega arith)))

pub left-turn : (last : ℕ) (ts : List Term) → last < none → least_of ts ≤ last → run_left (size ts) last ts ≡ run_left (size (pass ts)) last (pass ts)
left-turn last ts l le =
    let less : size (pass ts) < size ts = drop_less (least_of ts) ts refl (omega arith) in
    left_fuel (size ts) (suc (size ts)) last ts l (omega arith) (omega arith)
    ∙ rw (le-ltb last (least_of ts) le) (left_fuel (size ts) (size (pass ts)) last (pass ts) l (omega arith) (omega arith))
