-- A list by its term, as the walk goes on. Assumes nothing.
use Prim.Native.Nat.{ℕ}
use mathlib.Core.Path.{◌≡◌, refl}
use mathlib.Core.List.{List, [], ◌∷◌}
use lib.Dec.{eqb}
use Rattle.model.specs.Outcome.{Outcome, refused, done, and_then}
use Rattle.model.proofs.Lists.{split}
use Rattle.shelf.specs.Walk.{Listing, onto}
use Rattle.shelf.specs.Cursor.{start, lists_at, listing_at}
use Rattle.lookup.specs.Find.{find_of, found, here_or}
use Rattle.shelf.specs.Answers.{placed}
use Rattle.std.specs.Prelude.{Option, Some, None}
use Rattle.shelf.specs.declared.walk.Place.{Place}
use Rattle.shelf.specs.declared.walk.Walk.{Walk}
use Rattle.shelf.proofs.Steps.{walk_start, Turn}

-- what is known where `known` was found before, and these lists are left
abbrev pub known_from : Option Place → ℕ → List Listing → Option Place
known_from known t [] = known
known_from known t (l ∷ ls) = known_from (here_or known t l.place) t ls

-- "list .. not there: 12"
abbrev pub or_absent : Option Place → Outcome Place
or_absent (Some p) = done p
or_absent None = refused 12 0

abbrev pub shown_from : Option Place → ℕ → Outcome (List Listing) → Outcome Place
shown_from known t (refused n o) = refused n o
shown_from known t (done ls) = or_absent (known_from known t ls)

shown-onto : (known : Option Place) (t : ℕ) (l : Listing) (r : Outcome (List Listing)) → shown_from known t (onto l r) ≡ shown_from (here_or known t l.place) t r
shown-onto known t l (refused n o) = refl
shown-onto known t l (done ls) = refl

-- past a list that the walk found
pub shown-turn : (s : List ℕ) (w next : Walk) (p : Place) (known : Option Place) (t : ℕ) → Turn s w p next →
    shown_from known t (lists_at s w) ≡ shown_from (here_or known t p) t (lists_at s next)
shown-turn s w next p known t k = rw k.lists (shown-onto known t (listing_at s p) (lists_at s next))

-- the first that was found stays
known_stays : (p : Place) (t : ℕ) (ls : List Listing) → known_from (Some p) t ls ≡ Some p
known_stays p t [] = refl
known_stays p t (l ∷ ls) = known_stays p t ls

find_known : (t : ℕ) (ls : List Listing) → placed (find_of t ls) ≡ or_absent (known_from None t ls)
find_known t [] = refl
find_known t (l ∷ ls) =
    split (eqb l.place.term t)
    (λ e. rw (e, known_stays l.place t ls))
    (λ e. rw e (find_known t ls))

pub found-start : (t : ℕ) (s : List ℕ) → placed (found t s) ≡ shown_from None t (lists_at s start)
unfolding found
found-start t s = rw (walk_start s) (go (lists_at s start))
  where
    go : (r : Outcome (List Listing)) → placed (and_then r (λ ls. find_of t ls)) ≡ shown_from None t r
    go (refused n o) = refl
    go (done ls) = find_known t ls
