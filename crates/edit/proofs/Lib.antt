-- What an edit leaves: a sound shelf with the old postings and its own change; and what a history of edits adds up to.
pub mod Changes
pub mod Sounds
pub mod Histories
pub mod Splices
pub mod Sittings
pub mod Entries
pub mod Seekings
pub mod Lefts
