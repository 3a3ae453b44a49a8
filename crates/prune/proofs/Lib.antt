-- The laws of pruning.
pub mod Cuts
pub mod Parts
pub mod Searches
pub mod Goods
pub mod Prunes
pub mod Loops
pub mod Pushes
pub mod Gathers
pub mod Merges
pub mod Listings
pub mod Wholes
pub mod Books
pub mod Loopings
pub mod Faults
pub mod Rooms
