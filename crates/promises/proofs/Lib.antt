-- The demands hold (Demands), and the limits and the marked examples are as the paper says (Limits, Marked). What they stand on: for demand 1 the order of
-- refusals (Refusals), their numbers (Numbers), what the programs print (Programs) and what a refusal leaves (Rows, Stops); for demand 2 good lists (Goods), the ranking (Ranks, Ranking), reading and
-- writing (RoundTrips); for demand 3 the book (Book), edits (Edits) of which one writing is bytes (Written), a search after a conversion (Alike), and the
-- incident (Raised). And a public contract that is no equation allows one outcome only (Determined).
pub mod Demands
pub mod Marked
pub mod Limits
pub mod Refusals
pub mod Numbers
pub mod Rows
pub mod Programs
pub mod Stops
pub mod Goods
pub mod Ranks
pub mod Ranking
pub mod RoundTrips
pub mod Written
pub mod Book
pub mod Edits
pub mod Alike
pub mod Raised
pub mod Determined
