-- A query: what a reader of its format must believe.
pub mod Query
pub mod Answers
pub mod Range
