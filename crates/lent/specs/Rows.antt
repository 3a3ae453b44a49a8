-- "Hits are written into lent rows, a docid beside its score; rows past the last hit are not touched". Assumes nothing.
use Rattle.std.specs.Prelude.{ℕ, ◌≤◌, min, ◌≡◌, List, [], map, ◌++◌, length, drop}
use Rattle.model.specs.Limits.{max_k}
use Rattle.model.specs.Outcome.{Outcome, refused, done}
use Rattle.rank.specs.Rank as rank
use Rattle.rank.specs.Keep.{kept_of}
use Rattle.rank.specs.declared.keep.Kept.{Kept}
use Rattle.lent.specs.declared.rows.Hit.{Hit}

-- a hit as a row
abbrev pub row_of : rank.Hit → Hit
row_of h = record { docid = h.doc; score = h.score }

-- the rows with hits in front
abbrev pub with_hits : List rank.Hit → List Hit → List Hit
with_hits hs rows = map row_of hs ++ drop (length hs) rows

-- ---- an outcome as a caller with rows gets it

-- the refusal's number and offset; 0 where there is none
abbrev pub number_of : {A : Type 0} → Outcome A → ℕ
number_of (done x) = 0
number_of (refused n o) = n

abbrev pub offset_of : {A : Type 0} → Outcome A → ℕ
offset_of (done x) = 0
offset_of (refused n o) = o

-- "Counts in a refusal are 0 and outputs are untouched": no hit is written
abbrev pub hits_of : Outcome (List rank.Hit) → List rank.Hit
hits_of (done hs) = hs
hits_of (refused n o) = []

-- the numbers that are handed back
pub record Told (o : Outcome (List rank.Hit)) (n at c : ℕ) : Type 0 where
  pub number : n ≡ number_of o
  pub offset : at ≡ offset_of o
  pub hits : c ≡ length (hits_of o)

-- and what the rows then hold
pub record Rowed (o : Outcome (List rank.Hit)) (n at c : ℕ) (old new : List Hit) : Type 0 where
  pub told : Told o n at c
  pub rows : new ≡ with_hits (hits_of o) old

-- ---- the contracts behind it

-- how many hits there is room for
pub record Counts (t : Kept) (m n : ℕ) : Type 0 where
  pub count : n ≡ min (length (kept_of t)) m
  pub most : n ≤ max_k
