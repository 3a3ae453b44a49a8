-- What an edit means: for the postings, for the bytes, and for one list's seat.
pub mod Edits
pub mod Bytes
pub mod Runs
pub mod Seat
