-- The three edits, and their history.
pub mod Leaves
pub mod History
pub mod Left
