-- What an edit does to the postings of a shelf. Assumes nothing.
use Rattle.std.specs.Prelude.{ℕ, ◌^◌, ◌<◌, List, [], ◌∷◌, Bool, true, false, cond, ◌&&◌, ltb, eqb}
use Rattle.model.specs.Post.{Post, post}
use Rattle.list.specs.Write.{Word}

-- "Set (term, docid, score) adds or replaces. Clear (term, docid) removes one posting. Withdraw (docid) removes a sheet from every list."
pub data Edit : Type 0 where
  Set : (t d w : ℕ) → Edit
  Clear : (t d : ℕ) → Edit
  Withdraw : (d : ℕ) → Edit

-- ---- on the postings of one list, whose docids rise

abbrev pub set_post : (d w : ℕ) → List Post → List Post
set_post d w [] = post d w ∷ []
set_post d w (p ∷ ps) = cond (ltb d p.doc) (post d w ∷ p ∷ ps) (cond (eqb d p.doc) (post d w ∷ ps) (p ∷ set_post d w ps))

abbrev pub clear_post : (d : ℕ) → List Post → List Post
clear_post d [] = []
clear_post d (p ∷ ps) = cond (eqb d p.doc) (clear_post d ps) (p ∷ clear_post d ps)

-- ---- on the lists, whose terms rise

abbrev pub word : Bool → ℕ → List Post → Word
word strip t ps = record { term = t; posts = ps; strip = strip }

-- "an edit keeps a list's tag and a new list gets 03"
abbrev pub set_word : (t d w : ℕ) → List Word → List Word
set_word t d w [] = word false t (post d w ∷ []) ∷ []
set_word t d w (x ∷ xs) =
    cond (ltb t x.term) (word false t (post d w ∷ []) ∷ x ∷ xs)
    (cond (eqb t x.term) (word x.strip t (set_post d w x.posts) ∷ xs)
    (x ∷ set_word t d w xs))

-- "a list left without postings goes"
abbrev pub unless_empty : (strip : Bool) (t : ℕ) → List Post → List Word → List Word
unless_empty strip t [] xs = xs
unless_empty strip t (p ∷ ps) xs = word strip t (p ∷ ps) ∷ xs

-- docid d cleared from every list whose term is named
abbrev pub clear_words : (named : ℕ → Bool) (d : ℕ) → List Word → List Word
clear_words named d [] = []
clear_words named d (x ∷ xs) =
    cond (named x.term) (unless_empty x.strip x.term (clear_post d x.posts) (clear_words named d xs)) (x ∷ clear_words named d xs)

abbrev pub only : ℕ → ℕ → Bool
only t u = eqb u t

abbrev pub every : ℕ → Bool
every u = true

unfoldable pub applied : Edit → List Word → List Word
applied (Set t d w) xs = set_word t d w xs
applied (Clear t d) xs = clear_words (only t) d xs
applied (Withdraw d) xs = clear_words every d xs

-- ---- what a shelf holds

-- the score stored for docid d, 0 where there is none
abbrev pub score_in : (d : ℕ) → List Post → ℕ
score_in d [] = 0
score_in d (p ∷ ps) = cond (eqb d p.doc) p.score (score_in d ps)

-- the score stored for docid d in the list of term t, 0 where there is none
abbrev pub stored : (t d : ℕ) → List Word → ℕ
stored t d [] = 0
stored t d (x ∷ xs) = cond (eqb t x.term) (score_in d x.posts) (stored t d xs)

-- what an edit touches, and the score that it leaves there
abbrev pub touches : Edit → (t d : ℕ) → Bool
touches (Set t d w) u e = eqb u t && eqb e d
touches (Clear t d) u e = eqb u t && eqb e d
touches (Withdraw d) u e = eqb e d

abbrev pub left_score : Edit → ℕ
left_score (Set t d w) = w
left_score (Clear t d) = 0
left_score (Withdraw d) = 0

-- "term number: any 32-bit unsigned"
abbrev pub Termed : Edit → Type 0
Termed (Set t d w) = t < 2 ^ 32
Termed (Clear t d) = Unit {0}
Termed (Withdraw d) = Unit {0}
