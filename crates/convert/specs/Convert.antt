-- "A converter turns a list to the other layout, block by block." Assumes nothing.
use Rattle.std.specs.Prelude.{ℕ, ◌≤◌, ◌<◌, ◌≡◌, List, [], ◌∷◌, Bool, true, false, cond, not, ◌||◌, leb, eqb, length}
use Rattle.model.specs.Outcome.{Outcome, refused, done, and_then}
use Rattle.model.specs.Limits.{per_block}
use Rattle.model.specs.Post.{Post}
use Rattle.model.specs.Runs.{All}
use Rattle.block.specs.Body.{body_posts, right_body}
use Rattle.block.specs.declared.summary.Summary.{Summary}
use Rattle.shelf.specs.Walk.{Block, Listing, read_or, posts_of, strip_of, blocks_at}
use Rattle.shelf.specs.Check.{bad_body, checked}
use Rattle.std.specs.Prelude.{None}
use Rattle.shelf.specs.Answers.{Ready}
use Rattle.shelf.specs.declared.walk.Place.{Place}
use Rattle.list.specs.Write.{Word, bodies_bytes, blocks_bytes, words_of}
use Rattle.change.specs.Bytes.{Piece, piece_of, pieces, joined}

-- ---- the bytes

-- the postings of a list, block by block
abbrev pub chunks_of : List Block → List (List Post)
chunks_of [] = []
chunks_of (b ∷ bs) = read_or (body_posts b.sum b.body) ∷ chunks_of bs

-- the list with each block as it is, in the other layout
abbrev pub turned : Listing → Piece
turned l =
    record {
      term = l.place.term;
      posts = posts_of l.blocks;
      strip = not (strip_of l.blocks);
      bytes = blocks_bytes (not (strip_of l.blocks)) l.place.term (chunks_of l.blocks);
    }

-- the lists of a shelf with the list of term t turned, the others as they stand
abbrev pub turned_pieces : (t : ℕ) → List ℕ → List Listing → List Piece
turned_pieces t s [] = []
turned_pieces t s (l ∷ ls) = cond (eqb l.place.term t) (turned l ∷ turned_pieces t s ls) (piece_of s l ∷ turned_pieces t s ls)

-- whether there is a list of term t
abbrev pub listed : (t : ℕ) → List Listing → Bool
listed t [] = false
listed t (l ∷ ls) = eqb l.place.term t || listed t ls

-- 12, then 9, for the lists of a sound shelf and a buffer of `room` bytes
unfoldable pub turning : (t : ℕ) → List ℕ → List Listing → (room : ℕ) → Outcome (List ℕ)
turning t s ls room =
    cond (listed t ls)
    (cond (leb (length (joined (turned_pieces t s ls))) room)
    (done (joined (turned_pieces t s ls)))
    (refused 9 0))
    (refused 12 0)

-- "converter 6/7, 8 (whole shelf), 12, 9": the new bytes, or the first refusal in that order
unfoldable pub converted : (t : ℕ) → List ℕ → (room : ℕ) → Outcome (List ℕ)
converted t s room = and_then (checked s) (λ ls. turning t s ls room)

-- ---- what it does to what the shelf holds: no posting changes

abbrev pub turn_words : (t : ℕ) → List Word → List Word
turn_words t [] = []
turn_words t (x ∷ xs) = cond (eqb x.term t) (record { term = x.term; posts = x.posts; strip = not x.strip } ∷ turn_words t xs) (x ∷ turn_words t xs)

-- what a conversion leaves: a sound shelf, as long as the old one, whose lists are the old ones with the list of term t turned; every posting is as it was
pub record Turned (t : ℕ) (s : List ℕ) (old : List Listing) (v : List ℕ) : Type 0 where
  pub new : List Listing
  pub sound : checked v ≡ done new
  pub kept : pieces v new ≡ turned_pieces t s old
  pub holds : words_of new ≡ turn_words t (words_of old)
  pub size : length v ≡ length s

-- ---- the private contracts of the code

-- the bodies of a list in the other layout
abbrev pub turned_bodies : List Block → List ℕ
turned_bodies bs = bodies_bytes (not (strip_of bs)) (chunks_of bs)

-- what a right summary says
pub record Fit (m : Summary) : Type 0 where
  pub some : 0 < m.count
  pub few : m.count ≤ per_block
  pub above : 0 < m.least

-- a right body, and its summary
pub record Turns (m : Summary) (body : List ℕ) : Type 0 where
  pub fit : Fit m
  pub right : right_body m body ≡ true

-- a list of a sound shelf, and a buffer at least as long as the shelf
pub record Turnable (s : List ℕ) (p : Place) (out : List ℕ) : Type 0 where
  pub ready : Ready s p
  pub fit : All (λ (b : Block). Fit b.sum) (blocks_at s p.at p.count)
  pub right : bad_body (blocks_at s p.at p.count) ≡ None
  pub room : length s ≤ length out
