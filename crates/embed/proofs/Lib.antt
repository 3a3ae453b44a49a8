-- The laws that the entry points' proofs cite.
pub mod Reporting
pub mod Ranks
