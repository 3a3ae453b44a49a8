-- What edits add up to, posting by posting, and how a query's lists stand in it. Assumes nothing.
use Rattle.std.specs.Prelude.{ℕ, ◌*◌, ◌≤◌, ◌≡◌, false, cond, List, [], ◌∷◌, map, eqb}
use Rattle.model.specs.Outcome.{Outcome, done}
use Rattle.model.specs.Post.{Post}
use Rattle.model.specs.Runs.{All, Bytes}
use Rattle.shelf.specs.Walk.{Listing}
use Rattle.shelf.specs.Check.{checked}
use Rattle.list.specs.Write.{Word, words_of}
use Rattle.change.specs.Edits.{Edit, stored, touches, left_score, Termed}
use Rattle.change.specs.Bytes.{pieces, bytes_for, repacks, edited}
use Rattle.edit.specs.Leaves.{Leaves, Capped}
use Rattle.convert.specs.Convert.{converted, Turned}
use Rattle.edit.specs.History.{Act, Change, Convert, Named, Try}
use Rattle.query.specs.Query.{Asked, Question}
use Rattle.rank.specs.Rank.{Hit}
use Rattle.rank.specs.Match.{Term, any_list, hits_of}
use Rattle.promises.specs.Ranked.{In, FewBefore}

-- the score of docid d under term t once some edits are made, where it was `w` before; 0 is no posting. The last edit that touches it says.
-- A conversion touches none.
abbrev pub left_by : (t d w : ℕ) → List Act → ℕ
left_by t d w [] = w
left_by t d w (Change e ∷ es) = left_by t d (cond (touches e t d) (left_score e) w) es
left_by t d w (Convert u ∷ es) = left_by t d w es

-- the postings of a term, none where it has no list
abbrev pub posts_in : ℕ → List Word → List Post
posts_in t [] = []
posts_in t (w ∷ ws) = cond (eqb w.term t) w.posts (posts_in t ws)

abbrev pub term_in : List Word → Asked → Term
term_in ws a = record { weight = a.weight; posts = posts_in a.term ws }

-- all matches of a query among the words' postings
abbrev pub matches_in : Question → List Word → List Hit
matches_in x ws = hits_of any_list (map (term_in ws) x.terms)

-- ---- what is said of edits

-- "term number: any 32-bit unsigned"
abbrev pub AllNamed : List Try → Type 0
AllNamed es = All (λ (e : Try). Named e.act) es

-- an edit that is accepted on a sound shelf
pub record Accepted (e : Edit) (s : List ℕ) (old : List Listing) (v : List ℕ) : Type 0 where
  pub term : Termed e
  pub shelf-bytes : Bytes s
  pub sound : checked s ≡ done old
  pub room : ℕ
  pub accepted : edited e s room ≡ done v

-- and what it leaves
pub record Changes (e : Edit) (s : List ℕ) (old : List Listing) (v : List ℕ) : Type 0 where
  pub leaves : Leaves e s old v
  -- its own change, and every other posting as it was
  pub only : (t d : ℕ) → stored t d (words_of leaves.new) ≡ cond (touches e t d) (left_score e) (stored t d (words_of old))
  -- "others are copied byte for byte"
  pub copies : (t : ℕ) → repacks e t (pieces s old) ≡ false → bytes_for t (pieces v leaves.new) ≡ bytes_for t (pieces s old)
  -- no block keeps an old greatest score: each stores the largest score of its body
  pub capped : All (λ (l : Listing). All Capped l.blocks) leaves.new

-- ---- what is said of conversions

pub record Converting (t : ℕ) (s : List ℕ) (old : List Listing) (v : List ℕ) : Type 0 where
  pub shelf-bytes : Bytes s
  pub sound : checked s ≡ done old
  pub room : ℕ
  pub accepted : converted t s room ≡ done v

pub record Converts (t : ℕ) (s : List ℕ) (old : List Listing) (v : List ℕ) : Type 0 where
  pub turned : Turned t s old v
  -- no posting changes
  pub same : (u d : ℕ) → stored u d (words_of turned.new) ≡ stored u d (words_of old)
  -- every other list is copied byte for byte
  pub copies : (u : ℕ) → eqb u t ≡ false → bytes_for u (pieces v turned.new) ≡ bytes_for u (pieces s old)

-- a sheet that was set to score w under a term that is asked: it matches, by at least its weighted score, and is shown if it ranks among the first k
pub record Shown (w : ℕ) (y : Asked) (k : ℕ) (matches : List Hit) (h : Hit) (o : Outcome (List Hit)) : Type 0 where
  pub scores : y.weight * w ≤ h.score
  pub matched : In h matches
  pub shown : FewBefore h k matches → (hs : List Hit) × (o ≡ done hs) × In h hs
