-- Laws of postings that change, of a shelf as pieces, and of a list put at its seat.
pub mod Postings
pub mod Pieces
pub mod Copies
pub mod Runnings
pub mod Seats
pub mod News
