-- "A shelf is sound when the checker finds nothing." Checker: 6/7, 8. Assumes nothing.
use Rattle.std.specs.Prelude.{ℕ, List, [], ◌∷◌, cond, Option, Some, None}
use Rattle.model.specs.Outcome.{Outcome, refused, done, and_then}
use Rattle.block.specs.Body.{right_body}
use Rattle.shelf.specs.Walk.{Block, Listing, walk}

-- the tag of a list's first wrong body
abbrev pub bad_body : List Block → Option ℕ
bad_body [] = None
bad_body (b ∷ bs) = cond (right_body b.sum b.body) (bad_body bs) (Some b.body_at)

-- the first of two
abbrev pub or_else : Option ℕ → Option ℕ → Option ℕ
or_else (Some o) r = Some o
or_else None r = r

abbrev pub bad_lists : List Listing → Option ℕ
bad_lists [] = None
bad_lists (l ∷ ls) = or_else (bad_body l.blocks) (bad_lists ls)

abbrev pub verdict : List Listing → Option ℕ → Outcome (List Listing)
verdict ls None = done ls
verdict ls (Some o) = refused 8 o

-- the lists of a sound shelf, or the first refusal in the order 6/7, 8
unfoldable pub checked : List ℕ → Outcome (List Listing)
checked s = and_then (walk s) (λ ls. verdict ls (bad_lists ls))

-- the refusal, or that there is none
abbrev pub judged : {A : Type 0} → Outcome A → Outcome (Unit {0})
judged (refused n o) = refused n o
judged (done a) = done tt
