-- The private contracts of the edits' code on the place of a list. Assumes nothing.
use Rattle.std.specs.Prelude.{ℕ, suc, ◌+◌, ◌*◌, ◌^◌, ◌≤◌, ◌<◌, ◌≡◌, List, [], ◌∷◌, ◌++◌, Bool, false, cond, ◌&&◌, leb, ltb, eqb, length, take, drop}
use Rattle.model.specs.Limits.{max_postings, max_lists, max_shelf}
use Rattle.model.specs.Outcome.{Outcome, refused, done}
use Rattle.model.specs.Post.{Post, postings, docs, scores}
use Rattle.model.specs.Runs.{Holds}
use Rattle.shelf.specs.Walk.{Listing, posts_of, strip_of, blocks_at}
use Rattle.shelf.specs.Check.{checked, judged}
use Rattle.list.specs.Write.{list_bytes, Writable}
use Rattle.list.specs.Fill.{Fillable}
use Rattle.change.specs.declared.seat.Seat.{Seat}
use Rattle.change.specs.declared.seat.Seat.TheVariants.{Taken, Free}

-- the checker finds nothing
abbrev pub Sounds : List ℕ → Type 0
Sounds s = judged (checked s) ≡ done tt

-- the list of term t among lists that begin at `at`, or the place before the first list of a higher term
abbrev pub seat_of : (t at : ℕ) → List Listing → Seat
seat_of t at [] = Free at
seat_of t at (l ∷ ls) =
    cond (ltb t l.place.term) (Free at)
    (cond (eqb t l.place.term) (Taken l.place)
    (seat_of t l.place.next ls))

-- the postings of a seat's list
abbrev pub held_by : List ℕ → Seat → List Post
held_by s (Taken p) = posts_of (blocks_at s p.at p.count)
held_by s (Free at) = []

-- the layout of its bodies: "a new list gets 03"
abbrev pub strip_by : List ℕ → Seat → Bool
strip_by s (Taken p) = strip_of (blocks_at s p.at p.count)
strip_by s (Free at) = false

-- a list there has blocks, and ends at a place that there is
abbrev pub Stood : Seat → Type 0
Stood (Taken p) = (0 < p.count) × (p.at + 8 + 12 * p.count < 2 ^ 64)
Stood (Free at) = Unit {0}

abbrev pub Fills : List ℕ → Seat → (d w : ℕ) → Type 0
Fills s (Taken p) d w = Fillable s p d w
Fills s (Free at) d w = Unit {0}

-- its postings are in front, and what lies past them is as it was
pub record Held (s : List ℕ) (seat : Seat) (ds ss : List ℕ) (r : ℕ) (ds' ss' : List ℕ) : Type 0 where
  pub docids : Holds ds (docs (held_by s seat)) ds' r
  pub scored : Holds ss (scores (held_by s seat)) ss' r

-- ---- a list in place of the bytes from `at` to `next`

-- the bytes of a list, none without postings
abbrev pub packed_bytes : Bool → ℕ → List Post → List ℕ
packed_bytes strip t [] = []
packed_bytes strip t (p ∷ ps) = list_bytes strip t (p ∷ ps)

abbrev pub spliced : List ℕ → (at next : ℕ) → List ℕ → List ℕ
spliced s at next mid = take at s ++ (mid ++ drop next s)

-- bytes that are not too many, 11, and have room, 9
abbrev pub fitting : List ℕ → (room : ℕ) → Outcome (List ℕ)
fitting v room = cond (leb (length v) max_shelf) (cond (leb (length v) room) (done v) (refused 9 0)) (refused 11 0)

-- two runs of one length whose postings, if there are any, may be written
pub record May (ds ss : List ℕ) : Type 0 where
  pub same : length ds ≡ length ss
  pub may : (length ds ≡ 0 → ⊥) → Writable (postings ds ss)

-- ---- a list at its seat

-- where a seat's bytes begin and end: none where it is free
abbrev pub seat_at : Seat → ℕ
seat_at (Taken p) = p.at
seat_at (Free at) = at

abbrev pub seat_next : Seat → ℕ
seat_next (Taken p) = p.next
seat_next (Free at) = at

-- how many lists there are with one at the seat
abbrev pub lists_with : Seat → ℕ → ℕ
lists_with (Taken p) n = n
lists_with (Free at) n = suc n

-- the shelf of n lists with the postings ps at the seat of term t, in the layout of the list there: number 11, number 9, or its bytes
unfoldable pub placed : List ℕ → (n : ℕ) → Seat → (t : ℕ) → List Post → (room : ℕ) → Outcome (List ℕ)
placed s n seat t ps room =
    cond (leb (length ps) max_postings && leb (lists_with seat n) max_lists)
    (fitting (spliced s (seat_at seat) (seat_next seat) (packed_bytes (strip_by s seat) t ps)) room)
    (refused 11 0)

-- a seat of a sound shelf, and two runs whose postings may be written if they are few
pub record Placeable (s : List ℕ) (seat : Seat) (ds ss : List ℕ) : Type 0 where
  pub sound : Sounds s
  pub stood : Stood seat
  pub short : length s ≤ max_shelf
  pub order : seat_at seat ≤ seat_next seat
  pub inside : seat_next seat ≤ length s
  pub same : length ds ≡ length ss
  pub may : length ds ≤ max_postings → May ds ss

-- two runs with room for any list and one posting more
pub record Wide (ds ss : List ℕ) : Type 0 where
  pub docids : length ds ≡ max_postings + 1
  pub scored : length ss ≡ max_postings + 1
