-- The lists of a search's terms, found in one walk. Assumes nothing.
use Rattle.std.specs.Prelude.{ℕ, ◌-◌, ◌≡◌, List, [], ◌∷◌, ◌++◌, map, cond, eqb, take, replicate, Result, Ok, Err}
use Rattle.model.specs.Limits.{max_terms}
use Rattle.model.specs.Outcome.{refused, done}
use Rattle.shelf.specs.Walk.{Block, Listing, walk}
use Rattle.model.specs.Refusal.{number}
use Rattle.model.specs.declared.refusal.Refusal.{Refusal}
use Rattle.shelf.specs.declared.walk.Place.{Place}
use Rattle.lookup.specs.declared.gather.Found.{Found}

-- "A term not on the shelf is a list without blocks."
abbrev pub no_list : Listing
no_list = record { place = record { term = 0; count = 0; at = 0; next = 0 }; blocks = [] }

-- the list of term t
abbrev pub term_list : ℕ → List Listing → Listing
term_list t [] = no_list
term_list t (l ∷ ls) = cond (eqb l.place.term t) l (term_list t ls)

abbrev pub place_at : ℕ → List Listing → Place
place_at t ls = (term_list t ls).place

abbrev pub term_blocks : ℕ → List Listing → List Block
term_blocks t ls = (term_list t ls).blocks

-- a number of the list of each of the first n terms, and 0 past them
abbrev pub each : (Place → ℕ) → List ℕ → ℕ → List Listing → List ℕ
each f terms n ls = map (λ (t : ℕ). f (place_at t ls)) (take n terms) ++ replicate (max_terms - n) 0

-- where the lists of the first n terms begin, and their block counts
pub record Located (terms : List ℕ) (n : ℕ) (ls : List Listing) (r : Found) : Type 0 where
  pub ats : r.ats ≡ each (λ (p : Place). p.at) terms n ls
  pub counts : r.counts ≡ each (λ (p : Place). p.count) terms n ls

-- the lists of the terms; or the walk's refusal
abbrev pub Finds : (s terms : List ℕ) (n : ℕ) → Result Found Refusal → Type 0
Finds s terms n (Ok r) = (ls : List Listing) × (walk s ≡ done ls) × Located terms n ls r
Finds s terms n (Err e) = walk s ≡ refused (number e.fault) e.offset

-- ---- one list noted

-- the value v at each of the terms that is t
abbrev pub noted : (t v : ℕ) → List ℕ → List ℕ → List ℕ
noted t v [] run = run
noted t v (x ∷ xs) [] = []
noted t v (x ∷ xs) (a ∷ run) = cond (eqb x t) v a ∷ noted t v xs run

pub record Notes (terms : List ℕ) (n : ℕ) (p : Place) (as₀ cs₀ as₁ cs₁ : List ℕ) : Type 0 where
  pub ats : as₁ ≡ noted p.term p.at (take n terms) as₀
  pub counts : cs₁ ≡ noted p.term p.count (take n terms) cs₀
