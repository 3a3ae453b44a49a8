-- The query's blocks, the cuts between intervals and their ceilings (Cut), the search over intervals and its book (Search), both together (Prune), the contracts of the code that makes cuts and ceilings (Gather).
pub mod Cut
pub mod Search
pub mod Prune
pub mod Gather
pub mod Loop
