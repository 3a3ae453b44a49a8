-- The laws of calls.
pub mod Judged
pub mod Turns
