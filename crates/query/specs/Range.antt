-- The questions that a query can ask. Assumes nothing.
use Rattle.std.specs.Prelude.{ℕ, ◌^◌, ◌≤◌, ◌<◌, ◌≡◌, false, List, [], ◌∷◌, length}
use Rattle.model.specs.Limits.{max_k, max_terms, max_weight}
use Rattle.model.specs.Runs.{All, has}
use Rattle.query.specs.Query.{Asked, Question, terms_of}

-- no number twice
abbrev pub Once : List ℕ → Type 0
Once [] = Unit {0}
Once (t ∷ ts) = (has t ts ≡ false) × Once ts

-- "term number: any 32-bit unsigned"; "weight: 1 to 255"
abbrev pub Fits : Asked → Type 0
Fits a = (a.term < 2 ^ 32) × (1 ≤ a.weight) × (a.weight ≤ max_weight)

-- "query: k, terms: 1 to 100, 1 to 8"; no "term twice"
pub record InRange (x : Question) : Type 0 where
  pub k_low : 1 ≤ x.k
  pub k_high : x.k ≤ max_k
  pub some : 1 ≤ length x.terms
  pub few : length x.terms ≤ max_terms
  pub each : All Fits x.terms
  pub once : Once (terms_of x.terms)
