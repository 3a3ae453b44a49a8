-- The laws of the pruned ranker: each list's part of the blocks of all (Parts), a walked list's blocks (Rows), the blocks gathered (Gatherings), the ways out of the
-- search over them (Endings), and the answer by what the query's reader and the walk told (Searches).
pub mod Parts
pub mod Rows
pub mod Gatherings
pub mod Endings
pub mod Searches
