-- The laws of forms over what the caller lends.
pub mod Parts
pub mod Hits
