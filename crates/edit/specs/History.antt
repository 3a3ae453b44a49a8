-- A history of edits and conversions: each accepted result feeds the next, a refused one changes nothing. Assumes nothing.
use Rattle.std.specs.Prelude.{ℕ, ◌≡◌, List, [], ◌∷◌}
use Rattle.model.specs.Outcome.{Outcome, refused, done}
use Rattle.shelf.specs.Walk.{Listing}
use Rattle.shelf.specs.Check.{checked}
use Rattle.list.specs.Write.{Word, Words, words_of, writing}
use Rattle.change.specs.Edits.{Edit, applied, Termed}
use Rattle.change.specs.Bytes.{edited}
use Rattle.convert.specs.Convert.{converted, turn_words}

-- "conversions may stand in demand 3's history, changing no posting"
pub data Act : Type 0 where
  Change : Edit → Act
  Convert : (t : ℕ) → Act

-- the new shelf, or the refusal
abbrev pub made : Act → List ℕ → (room : ℕ) → Outcome (List ℕ)
made (Change e) s room = edited e s room
made (Convert t) s room = converted t s room

-- what it does to what the shelf holds
abbrev pub does : Act → List Word → List Word
does (Change e) ws = applied e ws
does (Convert t) ws = turn_words t ws

abbrev pub Named : Act → Type 0
Named (Change e) = Termed e
Named (Convert t) = Unit {0}

-- an act that is tried, with a buffer of `room` bytes
pub record Try : Type 0 where
  pub act : Act
  pub room : ℕ

abbrev pub or_stay : List ℕ → Outcome (List ℕ) → List ℕ
or_stay s (refused n o) = s
or_stay s (done v) = v

-- the shelf at the end, from the shelf s
abbrev pub shelf_after : List Try → List ℕ → List ℕ
shelf_after [] s = s
shelf_after (e ∷ es) s = shelf_after es (or_stay s (made e.act s e.room))

abbrev pub if_done : Act → Outcome (List ℕ) → List Act → List Act
if_done e (refused n o) es = es
if_done e (done v) es = e ∷ es

-- the acts that were accepted
abbrev pub accepted : List Try → List ℕ → List Act
accepted [] s = []
accepted (e ∷ es) s = if_done e.act (made e.act s e.room) (accepted es (or_stay s (made e.act s e.room)))

-- what they add up to
abbrev pub add_up : List Act → List Word → List Word
add_up [] ws = ws
add_up (e ∷ es) ws = add_up es (does e ws)

-- what a history leaves: the checker finds nothing, the shelf holds exactly what the accepted acts add up to, and its bytes are one writing of it
pub record History (s : List ℕ) (ws : List Word) : Type 0 where
  pub found : List Listing
  pub sound : checked s ≡ done found
  pub holds : words_of found ≡ ws
  pub words : Words 0 ws
  pub bytes : s ≡ writing ws
