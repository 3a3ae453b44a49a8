-- Terms and weights, put one by one into runs of zeros. Assumes nothing.
use Prim.Native.Nat.{ℕ, ◌+◌, ◌-◌, ◌≤◌, ◌<◌}
use native.Mathlib.Omega.{arith}
use mathlib.Core.Path.{◌≡◌, refl, ◌∙◌}
use mathlib.Core.List.{List, [], ◌∷◌, map}
use lib.ListN.{length, set, drop}
use Rattle.model.specs.Limits.{max_terms}
use Rattle.model.specs.Runs.{Stored, Holds}
use Rattle.model.proofs.Lists.{map-length}
use Rattle.model.proofs.Storing.{Rest, rest-turn, rest_end, stored-holds}
use Rattle.query.specs.Query.{Asked, Question, term_at, asked_in, terms_in, question}
use Rattle.query.specs.Answers.{zeros, Carries}
use Rattle.query.specs.declared.read.Query.{Query}
use Rattle.query.proofs.Parts.{terms-length, terms-none, terms-more}

-- one number of each term: those from index i on are left to store
module _ (f : Asked → ℕ) (s : List ℕ) (n : ℕ) where
  abbrev pub Part : (i : ℕ) → List ℕ → Type 0
  Part i run = Rest zeros run 0 i (map f (terms_in n (drop 4 s))) (map f (terms_in (n - i) (drop (term_at i) s)))

  part-turn : (i : ℕ) (run : List ℕ) → i < n → Part i run → Part (i + 1) (set run i (f (asked_in (drop (term_at i) s))))
  part-turn i run h p =
      let x = f (asked_in (drop (term_at i) s)) in
      let one : Stored run (set run i x) i (i + 1) (x ∷ []) = record { past = refl; whole = refl } in
      rest-turn (x ∷ []) (map f (terms_in (n - (i + 1)) (drop (term_at (i + 1)) s))) (rw (terms-more n i s h)) p one

  part_end : (i : ℕ) (run : List ℕ) → n ≤ max_terms → i ≡ n → Part i run → Holds zeros (map f (terms_in n (drop 4 s))) run n
  part_end i run few e p =
      let none : map f (terms_in (n - i) (drop (term_at i) s)) ≡ [] = rw (terms-none n i s (omega arith)) in
      let size : length (map f (terms_in n (drop 4 s))) ≤ 8 = omega (arith, map-length f (terms_in n (drop 4 s)), terms-length n (drop 4 s)) in
      rw e at (stored-holds size (rest_end none p))

-- both of them
pub record Filling (s : List ℕ) (n i : ℕ) (terms weights : List ℕ) : Type 0 where
  pub below : i ≤ n
  pub termed : Part (λ a. a.term) s n i terms
  pub weighed : Part (λ a. a.weight) s n i weights

module _ (s : List ℕ) (n i : ℕ) (terms weights : List ℕ) (c : Filling s n i terms weights) where
  pub filling_turn : i < n → Filling s n (i + 1) (set terms i (asked_in (drop (term_at i) s)).term) (set weights i (asked_in (drop (term_at i) s)).weight)
  filling_turn h =
      record {
        below = omega arith;
        termed = part-turn (λ a. a.term) s n i terms h c.termed;
        weighed = part-turn (λ a. a.weight) s n i weights h c.weighed;
      }

  pub filling_end : (k : ℕ) → n ≤ max_terms → n ≤ i → Carries (question k n s) (record { k = k; n = n; terms = terms; weights = weights })
  filling_end k few h =
      let e : i ≡ n = omega (arith, c.below) in
      record {
        k = refl;
        terms = part_end (λ a. a.term) s n i terms few e c.termed;
        weights = part_end (λ a. a.weight) s n i weights few e c.weighed;
      }

-- what is handed on has as many terms as the question
pub carried_count : (x : Question) (q : Query) → Carries x q → q.n ≡ length x.terms
carried_count x q c = c.terms.count ∙ map-length (λ (a : Asked). a.term) x.terms
