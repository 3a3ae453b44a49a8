-- The laws that all crates cite.
pub mod Lists
pub mod Runs
pub mod Storing
pub mod Posts
pub mod Refusals
