-- Laws of what is looked up.
pub mod Finds
pub mod Shows
pub mod Gathers
pub mod Stands
pub mod Showings
pub mod Tables
pub mod Terms
