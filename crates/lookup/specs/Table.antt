-- The blocks of the lists that were found, list after list in the query's order, side by side in five runs. Assumes nothing.
use Rattle.std.specs.Prelude.{ℕ, zero, suc, ◌+◌, ◌≤◌, ◌<◌, ◌≡◌, List, [], ◌∷◌, ◌++◌, map, length, get_or, replicate}
use Rattle.model.specs.Limits.{max_shelf, max_terms}
use Rattle.model.specs.Runs.{Stored, Holds}
use Rattle.shelf.specs.Walk.{Block, blocks_at}
use Rattle.shelf.specs.Answers.{ReadyAt}
use Rattle.lookup.specs.declared.gather.Blocks.{Blocks}

-- what the runs hold of a block
abbrev pub least : Block → ℕ
least b = b.sum.least

abbrev pub greatest : Block → ℕ
greatest b = b.sum.greatest

abbrev pub top : Block → ℕ
top b = b.sum.top

abbrev pub count : Block → ℕ
count b = b.sum.count

abbrev pub tag_at : Block → ℕ
tag_at b = b.body_at

-- "terms 1 to 8" of "blocks per list 1 to 64"
abbrev pub max_blocks : ℕ
max_blocks = 512

-- ---- one list laid into the runs

pub record Five : Type 0 where
  pub los : List ℕ
  pub his : List ℕ
  pub tops : List ℕ
  pub counts : List ℕ
  pub bodies : List ℕ

abbrev pub runs : (los his tops counts bodies : List ℕ) → Five
runs los his tops counts bodies = record { los = los; his = his; tops = tops; counts = counts; bodies = bodies }

-- a list that stands in a shelf of the size allowed, and room for its blocks from j on
pub record Layable (s : List ℕ) (at n j : ℕ) (to : Five) : Type 0 where
  pub ready : 0 < n → ReadyAt s at n
  pub small : length s ≤ max_shelf
  pub room : j + n ≤ max_blocks
  pub los : length to.los ≡ max_blocks
  pub his : length to.his ≡ max_blocks
  pub tops : length to.tops ≡ max_blocks
  pub counts : length to.counts ≡ max_blocks
  pub bodies : length to.bodies ≡ max_blocks

pub record Lays (bs : List Block) (j r : ℕ) (old new : Five) : Type 0 where
  pub los : Stored old.los new.los j r (map least bs)
  pub his : Stored old.his new.his j r (map greatest bs)
  pub tops : Stored old.tops new.tops j r (map top bs)
  pub counts : Stored old.counts new.counts j r (map count bs)
  pub bodies : Stored old.bodies new.bodies j r (map tag_at bs)

-- ---- all lists

-- the first n lists, by where each begins and its block count
abbrev pub found_lists : List ℕ → (ats counts : List ℕ) → ℕ → List (List Block)
found_lists s ats counts zero = []
found_lists s ats counts (suc t) = found_lists s ats counts t ++ (blocks_at s (get_or ats t 0) (get_or counts t 0) ∷ [])

-- each stands in a shelf of the size allowed, or has no blocks
pub record Gatherable (s ats counts : List ℕ) (n : ℕ) : Type 0 where
  pub terms : n ≤ max_terms
  pub small : length s ≤ max_shelf
  pub ready : (t : ℕ) → t < n → 0 < get_or counts t 0 → ReadyAt s (get_or ats t 0) (get_or counts t 0)

-- list after list
abbrev pub flat : List (List Block) → List Block
flat [] = []
flat (bs ∷ ls) = bs ++ flat ls

-- where each list ends, from the place k on
abbrev pub ends_from : ℕ → List (List Block) → List ℕ
ends_from k [] = []
ends_from k (bs ∷ ls) = (k + length bs) ∷ ends_from (k + length bs) ls

pub record Gathered (ls : List (List Block)) (r : Blocks) : Type 0 where
  pub ends : Holds (replicate max_terms 0) (ends_from 0 ls) r.ends (length ls)
  pub los : Holds (replicate max_blocks 0) (map least (flat ls)) r.los r.n
  pub his : Holds (replicate max_blocks 0) (map greatest (flat ls)) r.his r.n
  pub tops : Holds (replicate max_blocks 0) (map top (flat ls)) r.tops r.n
  pub counts : Holds (replicate max_blocks 0) (map count (flat ls)) r.counts r.n
  pub bodies : Holds (replicate max_blocks 0) (map tag_at (flat ls)) r.bodies r.n
