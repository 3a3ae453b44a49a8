-- The laws of one interval.
pub mod Numbers
pub mod Meets
pub mod Enters
pub mod Standings
pub mod Turns
