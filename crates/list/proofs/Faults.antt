-- The writer's refusals, by the tests that the code makes: the first posting at fault, then the answer case by case. Assumes nothing.
use Prim.Native.Nat.{ℕ, suc, ◌≤◌, ◌<◌, min, max}
use native.Mathlib.Omega.{arith}
use mathlib.Core.Path.{◌≡◌, refl, ap, ◌∙◌}
use mathlib.Core.Bool.{Bool, false}
use mathlib.Core.List.{List, [], ◌∷◌, ◌++◌}
use borrow.Author.Tests.{lt-ltb, le-ltb, ltb-true, le-leb, lt-leb, leb-true, eq-eqb, ne_eqb}
use lib.Dec.{leb, ltb}
use lib.ListN.{length, drop}
use Rattle.model.specs.Limits.{max_docid, max_score, max_postings}
use Rattle.model.specs.Outcome.{Outcome, refused, done}
use Rattle.model.specs.Post.{Post, post, postings, Rising, Scored, last_doc}
use Rattle.model.specs.Runs.{Stored}
use Rattle.model.proofs.Lists.{split, and-true, and-false}
use Rattle.model.proofs.Posts.{count_of, rising-last}
use Rattle.model.proofs.Storing.{stored-holds}
use Rattle.list.specs.Answer.{Gives}
use Rattle.list.specs.Write.{list_bytes, may_follow, fault_at, write_list, Paired}
use Rattle.std.specs.Prelude.{Ok, Err}
use Rattle.model.specs.Refusal.{number}
use Rattle.model.specs.declared.refusal.Refusal.{Refusal}

-- ---- a posting after docid p, and those after it

module _ (p d w : ℕ) (ps : List Post) where
  fault-here : may_follow p (post d w) ≡ false → fault_at p (post d w ∷ ps) ≡ 0
  unfolding fault_at
  fault-here t = rw t

  pub fault_low : d ≤ p → fault_at p (post d w ∷ ps) ≡ 0
  fault_low l = fault-here (rw (le-ltb p d l))

  pub fault_high : max_docid < d → fault_at p (post d w ∷ ps) ≡ 0
  fault_high l = fault-here (rw (lt-leb d 16777215 l) (and-false (ltb p d)))

  pub fault-score : w ≡ 0 → fault_at p (post d w ∷ ps) ≡ 0
  fault-score z = fault-here (rw (le-ltb 0 w (omega arith), and-false (leb d 16777215)) (and-false (ltb p d)))

  pub fault-on : p < d → d ≤ max_docid → 0 < w → w ≤ max_score → fault_at p (post d w ∷ ps) ≡ suc (fault_at d ps)
  unfolding fault_at
  fault-on a b c e = rw (lt-ltb p d a, le-leb d 16777215 b, lt-ltb 0 w c, le-leb w 65535 e)

pub fault-end : (p : ℕ) → fault_at p [] ≡ 0
unfolding fault_at
fault-end p = refl

-- ---- postings of which none is at fault, and only those, may be written

pub record Faultless (p : ℕ) (ps : List Post) : Type 0 where
  pub rise : Rising p ps
  pub scores : Scored ps
  pub last : last_doc p ps ≤ max_docid

pub faultless : (p : ℕ) (ps : List Post) → p ≤ max_docid → length ps ≤ fault_at p ps → Faultless p ps
unfolding fault_at
faultless p [] l h = record { rise = tt; scores = tt; last = l }
faultless p (x ∷ ps) l h =
    split (may_follow p x)
    (λ t.
    let a = and-true (ltb p x.doc) _ t in
    let b = and-true (leb x.doc 16777215) _ a.1 in
    let c = and-true (ltb 0 x.score) _ b.1 in
    let r = faultless x.doc ps (leb-true _ _ b.0) (omega (arith, rw t at h)) in
    record { rise = (ltb-true _ _ a.0, r.rise); scores = ((ltb-true _ _ c.0, leb-true _ _ c.1), r.scores); last = r.last })
    (λ t. let n : suc (length ps) ≤ 0 = rw t at h in absurd (omega arith))

pub no_fault : (p : ℕ) (ps : List Post) → Faultless p ps → fault_at p ps ≡ length ps
unfolding fault_at
no_fault p [] f = refl
no_fault p (x ∷ ps) f =
    let low : p < x.doc = f.rise.0 in
    let high : x.doc ≤ 16777215 = omega (arith, rising-last x.doc ps f.rise.1, f.last) in
    rw (lt-ltb p x.doc low, le-leb x.doc 16777215 high, lt-ltb 0 x.score f.scores.0.0, le-leb x.score 65535 f.scores.0.1)
    (ap suc (no_fault x.doc ps (record { rise = f.rise.1; scores = f.scores.1; last = f.last })))

pub may_write : (ds ss : List ℕ) → length ds ≡ length ss → 0 < length ds → length ds ≤ max_postings → length ds ≤ fault_at 0 (postings ds ss) → Paired ds ss
may_write ds ss e some few h =
    let n = count_of ds ss e in
    let f = faultless 0 (postings ds ss) (omega arith) (omega arith) in
    record { same = e; may = record { some = omega arith; few = omega arith; rise = f.rise; scores = f.scores; last = f.last } }

-- ---- the answer, case by case

module _ (strip : Bool) (t : ℕ) (ds ss : List ℕ) (room : ℕ) where
  pub write_many : max_postings < max (length ds) (length ss) → write_list strip t ds ss room ≡ refused 11 0
  unfolding write_list
  write_many h = rw (lt-ltb 6400 (max (length ds) (length ss)) h)

  pub write_uneven : (k : ℕ) → max (length ds) (length ss) ≤ max_postings → (length ds ≡ length ss → ⊥) → k ≡ min (length ds) (length ss) →
      write_list strip t ds ss room ≡ refused 10 k
  unfolding write_list
  write_uneven k h d e = rw (le-ltb 6400 (max (length ds) (length ss)) h, ne_eqb (length ds) (length ss) d, e)

  module _ (h : max (length ds) (length ss) ≤ max_postings) (e : length ds ≡ length ss) where
    pub write-none : length ds ≡ 0 → write_list strip t ds ss room ≡ refused 10 0
    unfolding write_list
    write-none z = rw (le-ltb 6400 (max (length ds) (length ss)) h, eq-eqb (length ds) (length ss) e, eq-eqb (length ds) 0 z)

    module _ (z : length ds ≡ 0 → ⊥) where
      pub write-fault : (k : ℕ) → k ≡ fault_at 0 (postings ds ss) → k < length ds → write_list strip t ds ss room ≡ refused 10 k
      unfolding write_list
      write-fault k q l =
          rw (
            le-ltb 6400 (max (length ds) (length ss)) h,
            eq-eqb (length ds) (length ss) e,
            ne_eqb (length ds) 0 z,
            lt-ltb (fault_at 0 (postings ds ss)) (length ds) (omega arith),
            q,
          )

      pub write-short : length ds ≤ fault_at 0 (postings ds ss) → room < length (list_bytes strip t (postings ds ss)) → write_list strip t ds ss room ≡ refused 9 0
      unfolding write_list
      write-short f l =
          rw (
            le-ltb 6400 (max (length ds) (length ss)) h,
            eq-eqb (length ds) (length ss) e,
            ne_eqb (length ds) 0 z,
            le-ltb (fault_at 0 (postings ds ss)) (length ds) f,
            lt-ltb room (length (list_bytes strip t (postings ds ss))) l,
          )

      pub write_done : length ds ≤ fault_at 0 (postings ds ss) → length (list_bytes strip t (postings ds ss)) ≤ room → write_list strip t ds ss room ≡ done (list_bytes strip t (postings ds ss))
      unfolding write_list
      write_done f l =
          rw (
            le-ltb 6400 (max (length ds) (length ss)) h,
            eq-eqb (length ds) (length ss) e,
            ne_eqb (length ds) 0 z,
            le-ltb (fault_at 0 (postings ds ss)) (length ds) f,
            le-ltb room (length (list_bytes strip t (postings ds ss))) l,
          )

-- ---- what is answered, and what the buffer holds

pub gives-refused : {o : Outcome (List ℕ)} (r : Refusal) (l : List ℕ) → o ≡ refused (number r.fault) r.offset → Gives o l l (Err r)
gives-refused r l e = record { answers = rw e; holds = rw e }

pub gives-done : {o : Outcome (List ℕ)} {l m v : List ℕ} {r : ℕ} → o ≡ done v → length v ≤ length l → Stored l m 0 r v → Gives o l m (Ok r)
gives-done {o} {l} {m} {v} {r} e h s =
    let w = stored-holds h s in
    let q : m ≡ v ++ drop (length v) l = w.whole ∙ ap (λ (k : ℕ). v ++ drop k l) w.count in
    record { answers = rw e (ap done w.count); holds = rw e q }
