-- What an edit does to the bytes of a shelf, or why it is refused: for every shelf and every edit. Assumes nothing.
use Rattle.std.specs.Prelude.{ℕ, ◌-◌, List, [], ◌∷◌, ◌++◌, Bool, true, false, cond, ◌&&◌, ◌||◌, leb, ltb, eqb, length, take, drop}
use Rattle.model.specs.Limits.{max_docid, max_score, max_postings, max_lists, max_shelf}
use Rattle.model.specs.Outcome.{Outcome, refused, done, and_then}
use Rattle.model.specs.Post.{Post, post, docs}
use Rattle.model.specs.Runs.{has}
use Rattle.shelf.specs.Walk.{Listing, posts_of, strip_of}
use Rattle.shelf.specs.Check.{checked}
use Rattle.list.specs.Write.{Word, list_bytes}
use Rattle.change.specs.Edits.{Edit, Set, Clear, Withdraw, set_post, clear_post, word, only, every}

-- ---- a shelf as pieces

-- a list as it stands in a shelf: its term, its postings, the layout of its bodies, its bytes
pub record Piece : Type 0 where
  pub term : ℕ
  pub posts : List Post
  pub strip : Bool
  pub bytes : List ℕ

abbrev pub piece_of : List ℕ → Listing → Piece
piece_of s l = record { term = l.place.term; posts = posts_of l.blocks; strip = strip_of l.blocks; bytes = take (l.place.next - l.place.at) (drop l.place.at s) }

abbrev pub pieces : List ℕ → List Listing → List Piece
pieces s [] = []
pieces s (l ∷ ls) = piece_of s l ∷ pieces s ls

abbrev pub joined : List Piece → List ℕ
joined [] = []
joined (x ∷ xs) = x.bytes ++ joined xs

-- what the pieces hold
abbrev pub contents : List Piece → List Word
contents [] = []
contents (x ∷ xs) = word x.strip x.term x.posts ∷ contents xs

-- ---- the edit, piece by piece: "others are copied byte for byte"

-- "packed anew as by the writer", in a layout
abbrev pub anew : Bool → ℕ → List Post → Piece
anew strip t ps = record { term = t; posts = ps; strip = strip; bytes = list_bytes strip t ps }

-- "Each list that changes, and the list named in a set, is packed anew"; "an edit keeps a list's tag and a new list gets 03"
abbrev pub set_piece : (t d w : ℕ) → List Piece → List Piece
set_piece t d w [] = anew false t (post d w ∷ []) ∷ []
set_piece t d w (x ∷ xs) =
    cond (ltb t x.term) (anew false t (post d w ∷ []) ∷ x ∷ xs)
    (cond (eqb t x.term) (anew x.strip t (set_post d w x.posts) ∷ xs)
    (x ∷ set_piece t d w xs))

-- "a list left without postings goes"
abbrev pub anew_unless_empty : (strip : Bool) (t : ℕ) → List Post → List Piece → List Piece
anew_unless_empty strip t [] xs = xs
anew_unless_empty strip t (p ∷ ps) xs = anew strip t (p ∷ ps) ∷ xs

-- a list whose term is named and that holds docid d
abbrev pub holds : (named : ℕ → Bool) (d : ℕ) → Piece → Bool
holds named d x = named x.term && has d (docs x.posts)

abbrev pub clear_pieces : (named : ℕ → Bool) (d : ℕ) → List Piece → List Piece
clear_pieces named d [] = []
clear_pieces named d (x ∷ xs) =
    cond (holds named d x) (anew_unless_empty x.strip x.term (clear_post d x.posts) (clear_pieces named d xs)) (x ∷ clear_pieces named d xs)

unfoldable pub changed : Edit → List Piece → List Piece
changed (Set t d w) xs = set_piece t d w xs
changed (Clear t d) xs = clear_pieces (only t) d xs
changed (Withdraw d) xs = clear_pieces every d xs

-- ---- which lists it packs anew

-- the bytes of the list of term u, and its postings; none where there is no such list
abbrev pub bytes_for : ℕ → List Piece → List ℕ
bytes_for u [] = []
bytes_for u (x ∷ xs) = cond (eqb u x.term) x.bytes (bytes_for u xs)

abbrev pub posts_for : ℕ → List Piece → List Post
posts_for u [] = []
posts_for u (x ∷ xs) = cond (eqb u x.term) x.posts (posts_for u xs)

-- "Each list that changes, and the list named in a set"
abbrev pub repacks : Edit → ℕ → List Piece → Bool
repacks (Set t d w) u xs = only t u
repacks (Clear t d) u xs = only t u && has d (docs (posts_for u xs))
repacks (Withdraw d) u xs = has d (docs (posts_for u xs))

-- ---- the refusals: "Edits 10, 6/7, 8 (whole shelf), 12, 11, 9"

-- not 10: "docid or score out of range"
abbrev pub docid_in : ℕ → Bool
docid_in d = ltb 0 d && leb d max_docid

abbrev pub in_range : Edit → Bool
in_range (Set t d w) = docid_in d && (ltb 0 w && leb w max_score)
in_range (Clear t d) = docid_in d
in_range (Withdraw d) = docid_in d

-- not 12: "list, block or posting not there; a withdrawn docid in no list"
abbrev pub some : (Piece → Bool) → List Piece → Bool
some p [] = false
some p (x ∷ xs) = p x || some p xs

unfoldable pub there : Edit → List Piece → Bool
there (Set t d w) xs = true
there (Clear t d) xs = some (holds (only t) d) xs
there (Withdraw d) xs = some (holds every d) xs

-- not 11: "result would pass 6,400 postings, 1,024 lists or 1,048,576 bytes"
abbrev pub few : List Piece → Bool
few [] = true
few (x ∷ xs) = leb (length x.posts) max_postings && few xs

unfoldable pub within : List Piece → Bool
within xs = few xs && (leb (length xs) max_lists && leb (length (joined xs)) max_shelf)

-- 12, 11, 9, in that order, for the pieces of a sound shelf and a buffer of `room` bytes
unfoldable pub settled : Edit → List Piece → (room : ℕ) → Outcome (List ℕ)
settled e xs room =
    cond (there e xs)
    (cond (within (changed e xs))
    (cond (leb (length (joined (changed e xs))) room)
    (done (joined (changed e xs)))
    (refused 9 0))
    (refused 11 0))
    (refused 12 0)

-- "An edit reads one buffer and writes another, returning the new length": the new bytes, or the first refusal in the order 10, 6/7, 8, 12, 11, 9
unfoldable pub edited : Edit → List ℕ → (room : ℕ) → Outcome (List ℕ)
edited e s room = cond (in_range e) (and_then (checked s) (λ ls. settled e (pieces s ls) room)) (refused 10 0)
