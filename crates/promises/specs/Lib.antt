-- What is promised: the three demands, sentence by sentence (Demands), the limits in their numbers (Limits) and the marked examples (Marked). Their words: the
-- order of refusals (Refusals), a query that is served (Served), the k best (Ranked), lent rows (Rows), the interval book (Book), edits (Edits).
pub mod Demands
pub mod Marked
pub mod Limits
pub mod Refusals
pub mod Served
pub mod Ranked
pub mod Rows
pub mod Book
pub mod Edits
