-- What is looked up in a shelf.
pub mod Find
pub mod Show
pub mod Gather
pub mod Table
