-- What a caller in C or Rust gets.
pub mod Report
pub mod Rows
pub mod Search
