-- What the first k of some hits are, in docids and scores. Assumes nothing.
use Rattle.std.specs.Prelude.{ℕ, zero, suc, ◌<◌, min, ◌≡◌, ◌⊎◌, List, [], ◌∷◌, length}
use Rattle.model.specs.Runs.{All}
use Rattle.rank.specs.Rank.{Hit}

-- it is one of these
abbrev pub In : {A : Type 0} → A → List A → Type 0
In x [] = ⊥
In x (y ∷ ys) = (y ≡ x) ⊎ In x ys

-- "higher first, lower sheet number first on a tie": the demands' tie rule stands here and nowhere else
abbrev pub Before : Hit → Hit → Type 0
Before a b = (b.score < a.score) ⊎ ((a.score ≡ b.score) × (a.doc < b.doc))

-- none comes before one that stands in front of it
abbrev pub InOrder : List Hit → Type 0
InOrder [] = Unit {0}
InOrder (x ∷ xs) = All (λ (y : Hit). Before y x → ⊥) xs × InOrder xs

-- fewer than k of the hits come before it
abbrev pub FewBefore : Hit → (k : ℕ) → List Hit → Type 0
FewBefore h zero xs = ⊥
FewBefore h (suc k) [] = Unit {0}
FewBefore h (suc k) (x ∷ xs) = (Before x h × FewBefore h k xs) ⊎ ((Before x h → ⊥) × FewBefore h (suc k) xs)

-- `best` are the k best of `all`: "higher first, lower sheet number first on a tie, the best k or all there are"
pub record KBest (k : ℕ) (all best : List Hit) : Type 0 where
  pub order : InOrder best
  pub count : length best ≡ min k (length all)
  pub only : (h : Hit) → In h best → In h all
  pub first : (h : Hit) → In h all → FewBefore h k all → In h best
