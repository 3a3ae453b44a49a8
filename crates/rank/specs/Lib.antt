-- Hits and their order (Rank), which sheets match and what they score (Match), the keeper's rows (Keep), the run over lists (Run).
pub mod Rank
pub mod Match
pub mod Keep
pub mod Run
