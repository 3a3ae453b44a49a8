-- A posting, and lists of them. Assumes nothing.
use Rattle.std.specs.Prelude.{ℕ, ◌<◌, ◌≤◌, max, ◌≡◌, List, [], ◌∷◌, map, length}
use Rattle.model.specs.Limits.{max_score}
use Rattle.model.specs.Runs.{All}

-- a docid with its score
pub record Post : Type 0 where
  pub doc : ℕ
  pub score : ℕ

abbrev pub post : ℕ → ℕ → Post
post d s = record { doc = d; score = s }

-- "a run of 32-bit docids beside a run of 16-bit scores"
abbrev pub postings : List ℕ → List ℕ → List Post
postings [] ss = []
postings (d ∷ ds) [] = []
postings (d ∷ ds) (s ∷ ss) = post d s ∷ postings ds ss

abbrev pub docs : List Post → List ℕ
docs ps = map (λ (p : Post). p.doc) ps

abbrev pub scores : List Post → List ℕ
scores ps = map (λ (p : Post). p.score) ps

-- docids rise strictly, from above `n`
abbrev pub Rising : ℕ → List Post → Type 0
Rising n [] = Unit {0}
Rising n (p ∷ ps) = (n < p.doc) × Rising p.doc ps

-- scores in range
abbrev pub Scored : List Post → Type 0
Scored ps = All (λ (p : Post). (0 < p.score) × (p.score ≤ max_score)) ps

-- the last docid, `n` where there is none
abbrev pub last_doc : ℕ → List Post → ℕ
last_doc n [] = n
last_doc n (p ∷ ps) = last_doc p.doc ps

-- the largest score, from `m` on
abbrev pub top_score : ℕ → List Post → ℕ
top_score m [] = m
top_score m (p ∷ ps) = top_score (max m p.score) ps

-- the largest of some numbers, from `m` on
abbrev pub max_from : ℕ → List ℕ → ℕ
max_from m [] = m
max_from m (x ∷ xs) = max_from (max m x) xs

-- two runs that belong together: as many scores as docids, which rise from above `n`
pub record Even (n : ℕ) (ds ss : List ℕ) : Type 0 where
  pub same : length ds ≡ length ss
  pub rise : Rising n (postings ds ss)
