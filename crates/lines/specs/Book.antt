-- The book's rows as they are printed, and how much is printed at most. Assumes nothing.
use Rattle.std.specs.Prelude.{ℕ, ◌^◌, ◌≤◌, ◌<◌, ◌≡◌, List, length}
use Rattle.model.specs.Limits.{max_k}
use Rattle.model.specs.Runs.{All, Asc}
use Rattle.lines.specs.Text.{Shown}

-- "one row per interval in three lent runs", the first docids rising from 1 or more
pub record Book (fs cs ms : List ℕ) : Type 0 where
  pub rise : Asc 0 fs
  pub ceilings : length cs ≡ length fs
  pub marks : length ms ≡ length fs

-- "There are at most 1,025 intervals."
abbrev pub max_intervals : ℕ
max_intervals = 1025

-- what a search can show: 100 hits and 1,025 intervals at most, these of numbers of 32 bits
pub record Small (x : Shown) : Type 0 where
  pub few : length x.hits ≤ max_k
  pub rows : length x.firsts ≤ max_intervals
  pub first : All (λ (n : ℕ). n < 2 ^ 32) x.firsts
  pub ceiling : All (λ (n : ℕ). n < 2 ^ 32) x.ceilings

-- the room that every output has
abbrev pub max_output : ℕ
max_output = 65536
