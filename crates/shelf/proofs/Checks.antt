-- The checker, by the walk that remembers the first wrong body. Assumes nothing.
use Prim.Native.Nat.{ℕ}
use mathlib.Core.Path.{◌≡◌, refl}
use mathlib.Core.List.{List, [], ◌∷◌}
use Rattle.model.specs.Outcome.{Outcome, refused, done, and_then}
use Rattle.shelf.specs.Walk.{Listing, blocks_at, onto}
use Rattle.shelf.specs.Cursor.{start, lists_at, listing_at}
use Rattle.shelf.specs.Check.{bad_body, or_else, bad_lists, verdict, checked, judged}
use Rattle.shelf.specs.declared.walk.Place.{Place}
use Rattle.shelf.specs.declared.walk.Walk.{Walk}
use Rattle.std.specs.Prelude.{Option}
use Rattle.std.specs.Prelude.{Some, None}
use Rattle.shelf.proofs.Steps.{walk_start, Turn}

-- ---- what is answered where `bad` was found before and the lists r are left

abbrev pub finish : Option ℕ → Outcome (List Listing) → Outcome (List Listing)
finish bad r = and_then r (λ ls. verdict ls (or_else bad (bad_lists ls)))

pub checked-start : (s : List ℕ) → checked s ≡ finish None (lists_at s start)
unfolding checked
checked-start s = rw (walk_start s)

finish_done : (bad mine later : Option ℕ) (ls ms : List Listing) → judged (verdict ls (or_else bad (or_else mine later))) ≡ judged (verdict ms (or_else (or_else bad mine) later))
finish_done (Some o) mine later ls ms = refl
finish_done None (Some o) later ls ms = refl
finish_done None None (Some o) ls ms = refl
finish_done None None None ls ms = refl

pub finish_onto : (bad : Option ℕ) (l : Listing) (r : Outcome (List Listing)) → judged (finish bad (onto l r)) ≡ judged (finish (or_else bad (bad_body l.blocks)) r)
finish_onto bad l (refused n o) = refl
finish_onto bad l (done ls) = finish_done bad (bad_body l.blocks) (bad_lists ls) (l ∷ ls) ls

-- past a list that the walk found
pub finish_turn : (s : List ℕ) (w next : Walk) (p : Place) (bad : Option ℕ) → Turn s w p next →
    judged (finish bad (lists_at s w)) ≡ judged (finish (or_else bad (bad_body (blocks_at s p.at p.count))) (lists_at s next))
finish_turn s w next p bad t = rw t.lists (finish_onto bad (listing_at s p) (lists_at s next))

-- with no list left
pub finish_end : (bad : Option ℕ) (r : Outcome (List Listing)) → r ≡ done [] → judged (finish bad r) ≡ judged (verdict [] bad)
finish_end (Some o) r e = rw e
finish_end None r e = rw e
