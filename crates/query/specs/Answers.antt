-- The code's answers, by the definitions of a query. Assumes nothing.
use Rattle.std.specs.Prelude.{ℕ, zero, suc, ◌≡◌, List, [], ◌∷◌, drop, replicate, Result, Ok, Err}
use Rattle.model.specs.Limits.{max_terms}
use Rattle.model.specs.Outcome.{Outcome, refused, done}
use Rattle.model.specs.Refusal.{number}
use Rattle.model.specs.declared.refusal.Refusal.{Refusal}
use Rattle.model.specs.Runs.{Holds}
use Rattle.query.specs.Query.{Question, terms_of, weights_of, asked_in, term_at}
use Rattle.query.specs.declared.read.Query.{Query}

-- the terms of the first i term fields, the last of them first
abbrev pub earlier : (i : ℕ) → List ℕ → List ℕ
earlier zero s = []
earlier (suc i) s = (asked_in (drop (term_at i) s)).term ∷ earlier i s

abbrev pub zeros : List ℕ
zeros = replicate max_terms 0

-- the question as it is handed on: its terms and its weights at the front of two runs of zeros
pub record Carries (x : Question) (q : Query) : Type 0 where
  pub k : q.k ≡ x.k
  pub terms : Holds zeros (terms_of x.terms) q.terms q.n
  pub weights : Holds zeros (weights_of x.terms) q.weights q.n

-- the answer for an outcome: what is asked, or the refusal's number and offset
abbrev pub Tells : Outcome Question → Result Query Refusal → Type 0
Tells o (Ok q) = (x : Question) × (o ≡ done x) × Carries x q
Tells o (Err r) = o ≡ refused (number r.fault) r.offset
