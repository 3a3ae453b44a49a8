-- The laws of ranking.
pub mod Order
pub mod Ranks
pub mod Sorts
pub mod Places
pub mod Matches
pub mod Withins
pub mod Keepers
pub mod Rows
pub mod Keepings
pub mod Runs
pub mod Hits
