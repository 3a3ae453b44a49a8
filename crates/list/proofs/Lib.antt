-- Reading a list (Pours, Given). Writing one: its blocks (Packing), its refusals (Faults, Accepted). What is written is sound and holds what was written (Writes, Shelves);
-- what is read is the writing of its postings (Canonical, WritesBack); lists as pieces that read the same wherever they stand (Pieces).
pub mod Pours
pub mod Given
pub mod Writes
pub mod Packing
pub mod Faults
pub mod Accepted
pub mod Canonical
pub mod WritesBack
pub mod Shelves
pub mod Pieces
pub mod ReadsBack
