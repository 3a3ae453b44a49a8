-- A list by its term: "a list shown in place 6/7, 12". Assumes nothing.
use Rattle.std.specs.Prelude.{ℕ, List, [], ◌∷◌, cond, eqb, Option, Some, None}
use Rattle.model.specs.Outcome.{Outcome, refused, done, and_then}
use Rattle.shelf.specs.Walk.{Listing, walk}
use Rattle.shelf.specs.declared.walk.Place.{Place}

-- the list of term t; "list .. not there: 12"
abbrev pub find_of : ℕ → List Listing → Outcome Listing
find_of t [] = refused 12 0
find_of t (l ∷ ls) = cond (eqb l.place.term t) (done l) (find_of t ls)

unfoldable pub found : ℕ → List ℕ → Outcome Listing
found t s = and_then (walk s) (λ ls. find_of t ls)

-- what is known after one list more: the first of the term stays
abbrev pub here_or : Option Place → ℕ → Place → Option Place
here_or (Some q) t p = Some q
here_or None t p = cond (eqb p.term t) (Some p) None
