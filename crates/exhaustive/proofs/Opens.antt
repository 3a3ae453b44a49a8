-- The lists before their first blocks: they have all their postings, on the shelf. Assumes nothing.
use Prim.Native.Nat.{ℕ, zero, suc, ◌+◌, ◌*◌, ◌^◌, ◌≤◌, ◌<◌}
use mathlib.Core.Path.{◌≡◌, refl, sym, ap, ◌∙◌}
use mathlib.Core.List.{List, [], ◌∷◌}
use native.Mathlib.Omega.{arith}
use native.Mathlib.Numerals.{add-one}
use lib.ListN.{length, take, get_or, set}
use lib.Seq.{slice_empty, take-suc, take-suc-set, take_all}
use Rattle.model.specs.Limits.{max_terms}
use Rattle.model.specs.Runs.{All}
use Rattle.prune.specs.Prune.{terms_of, fault_all}
use Rattle.scan.specs.Heads.{roomy, part_of, blank, InBuffers, OwnParts, terms}
use Rattle.exhaustive.specs.Merge.{Behinds, wholes, fault_left, Lines, start_head, start_heads, start_left, start_lefts, Addressed, AllWalked, lists_from}
use Rattle.exhaustive.proofs.Refills.{ended-none}
use Rattle.exhaustive.proofs.Fillings.{no_left}

-- ---- an array filled from the front
module _ {A : Type 0} (z : A) where
  pub front-turn : (xs ys : List A) (t : ℕ) (x : A) → t < length xs → t < length ys → take t xs ≡ take t ys → x ≡ get_or ys t z → take (t + 1) (set xs t x) ≡ take (t + 1) ys
  front-turn xs ys t x a b e q = rw (add-one t, take-suc-set xs t x a, take-suc ys t z b, e, q)

  pub front-done : (xs ys : List A) (n t : ℕ) → length xs ≡ n → length ys ≡ n → n ≤ t → take t xs ≡ take t ys → xs ≡ ys
  front-done xs ys n t a b l e = sym (take_all t xs (omega arith)) ∙ e ∙ take_all t ys (omega arith)

pub heads-long : (u : ℕ) (ws : List ℕ) → length (start_heads u ws) ≡ length ws
heads-long u [] = refl
heads-long u (w ∷ ws) = ap suc (heads-long (suc u) ws)

pub heads-at : (u t : ℕ) (ws : List ℕ) → t < length ws → start_head (u + t) (get_or ws t 0) ≡ get_or (start_heads u ws) t blank
heads-at u t [] l = absurd (omega arith)
heads-at u zero (w ∷ ws) l = let e : u + 0 ≡ u = omega arith in rw e
heads-at u (suc t) (w ∷ ws) l = let e : u + suc t ≡ suc u + t = omega arith in rw e (heads-at (suc u) t ws (omega arith))

pub lefts-long : (as₀ cs : List ℕ) → length as₀ ≡ length cs → length (start_lefts as₀ cs) ≡ length as₀
lefts-long [] cs n = refl
lefts-long (a ∷ as₀) [] n = absurd (omega arith)
lefts-long (a ∷ as₀) (c ∷ cs) n = ap suc (lefts-long as₀ cs (omega arith))

pub lefts-at : (t : ℕ) (as₀ cs : List ℕ) → t < length as₀ → t < length cs → start_left (get_or as₀ t 0) (get_or cs t 0) ≡ get_or (start_lefts as₀ cs) t no_left
lefts-at t [] cs a b = absurd (omega arith)
lefts-at t (x ∷ as₀) [] a b = absurd (omega arith)
lefts-at zero (x ∷ as₀) (c ∷ cs) a b = refl
lefts-at (suc t) (x ∷ as₀) (c ∷ cs) a b = lefts-at t as₀ cs (omega arith) (omega arith)

pub addressed-at : (t : ℕ) (as₀ cs : List ℕ) → t < length as₀ → t < length cs → Addressed as₀ cs → 0 < get_or cs t 0 → get_or as₀ t 0 + 8 + 12 * get_or cs t 0 < 2 ^ 64
addressed-at t [] cs a b w = absurd (omega arith)
addressed-at t (x ∷ as₀) [] a b w = absurd (omega arith)
addressed-at zero (x ∷ as₀) (c ∷ cs) a b w = w.0
addressed-at (suc t) (x ∷ as₀) (c ∷ cs) a b w = addressed-at t as₀ cs (omega arith) (omega arith) w.1

-- ---- what they have
module _ (s ds ss : List ℕ) where
  start-inside : (u : ℕ) (ws : List ℕ) → length ds ≡ roomy → length ss ≡ roomy → u + length ws ≤ max_terms → All (InBuffers ds ss) (start_heads u ws)
  start-inside u [] d e l = tt
  start-inside u (w ∷ ws) d e l =
      (record { docids = d; scored = e; inside = omega arith; below = rw (slice_empty (part_of u) ds) tt }, start-inside (suc u) ws d e (omega arith))

  start-parts : (u : ℕ) (ws : List ℕ) → OwnParts u (start_heads u ws)
  start-parts u [] = tt
  start-parts u (w ∷ ws) = (record { from = omega arith; upto = omega arith }, start-parts (suc u) ws)

  start-behind : (u : ℕ) (ws as₀ cs : List ℕ) → AllWalked s as₀ cs → Behinds s (terms ds ss (start_heads u ws)) (start_lefts as₀ cs)
  start-behind u [] as₀ cs w = tt
  start-behind u (x ∷ ws) [] cs w = tt
  start-behind u (x ∷ ws) (a ∷ as₀) [] w = tt
  start-behind u (x ∷ ws) (a ∷ as₀) (c ∷ cs) w =
      let e = ended-none ds ss (start_head u x) (omega arith) in
      (record { rising = rw e tt; upto = rw e tt; below = omega arith; rests = w.0.0; chain = w.0.1 }, start-behind (suc u) ws as₀ cs w.1)

  pub start-lines : (ws as₀ cs : List ℕ) → length ds ≡ roomy → length ss ≡ roomy → length ws ≡ max_terms → length as₀ ≡ max_terms → length cs ≡ max_terms → AllWalked s as₀ cs
      → Lines s ds ss (start_heads 0 ws) (start_lefts as₀ cs)
  start-lines ws as₀ cs d e n a c w = record {
    heads = heads-long 0 ws ∙ n;
    lefts = lefts-long as₀ cs (omega arith) ∙ a;
    inside = start-inside 0 ws d e (omega arith);
    parts = start-parts 0 ws;
    behind = start-behind 0 ws as₀ cs w;
  }

  pub start-wholes : (u : ℕ) (ws as₀ cs : List ℕ) → wholes s (terms ds ss (start_heads u ws)) (start_lefts as₀ cs) ≡ terms_of (lists_from s ws as₀ cs)
  start-wholes u [] as₀ cs = refl
  start-wholes u (x ∷ ws) [] cs = refl
  start-wholes u (x ∷ ws) (a ∷ as₀) [] = refl
  start-wholes u (x ∷ ws) (a ∷ as₀) (c ∷ cs) = rw (ended-none ds ss (start_head u x) (omega arith), start-wholes (suc u) ws as₀ cs)

pub start-fault : (s ws as₀ cs : List ℕ) → length as₀ ≤ length ws → fault_left s (start_lefts as₀ cs) ≡ fault_all (lists_from s ws as₀ cs)
start-fault s [] [] cs l = refl
start-fault s [] (a ∷ as₀) cs l = absurd (omega arith)
start-fault s (w ∷ ws) [] cs l = refl
start-fault s (w ∷ ws) (a ∷ as₀) [] l = refl
start-fault s (w ∷ ws) (a ∷ as₀) (c ∷ cs) l = rw (start-fault s ws as₀ cs (omega arith))
