-- The order of hits, the ranking, and the keeper of the k best. Assumes nothing.
use Rattle.std.specs.Prelude.{ℕ, ◌-◌, ◌≡◌, Bool, false, ◌&&◌, ◌||◌, cond, ltb, eqb, take, get_or}
use mathlib.Core.List.{List, [], ◌∷◌, foldl}
use Rattle.model.specs.Post.{Post, scores}
use Rattle.model.specs.Runs.{All}

-- a hit: a docid with its summed score
abbrev pub Hit : Type 0
Hit = Post

-- "Order: higher score, then lower docid." The tie rule stands here and nowhere else.
unfoldable pub ahead : Hit → Hit → Bool
ahead a b = ltb b.score a.score || (eqb a.score b.score && ltb a.doc b.doc)

-- A hit of a later docid and score `s` would come before one of an earlier docid and score `t`. It goes with the tie rule.
unfoldable pub beats : ℕ → ℕ → Bool
beats s t = ltb t s

-- `h` put in front of the first hit that it is ahead of
abbrev pub insert : Hit → List Hit → List Hit
insert h [] = h ∷ []
insert h (x ∷ xs) = cond (ahead h x) (h ∷ x ∷ xs) (x ∷ insert h xs)

abbrev pub sort : List Hit → List Hit
sort hs = foldl (λ s h. insert h s) [] hs

-- "The answer is the first k matches."
abbrev pub ranking : ℕ → List Hit → List Hit
ranking k hs = take k (sort hs)

-- the keeper: the k best of what it has seen
abbrev pub keep : ℕ → List Hit → Hit → List Hit
keep k kept h = take k (insert h kept)

abbrev pub keeps : ℕ → List Hit → List Hit → List Hit
keeps k kept hs = foldl (keep k) kept hs

abbrev pub best : ℕ → List Hit → List Hit
best k hs = keeps k [] hs

-- "the kth best score": 0 where there are fewer than k
abbrev pub kth : ℕ → List Hit → ℕ
kth k hs = get_or (scores hs) (k - 1) 0

-- no hit is ahead of one before it
abbrev pub Ordered : List Hit → Type 0
Ordered [] = Unit {0}
Ordered (x ∷ xs) = All (λ y. ahead y x ≡ false) xs × Ordered xs
