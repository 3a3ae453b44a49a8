-- The laws of the search over intervals.
pub mod Marks
pub mod Tables
pub mod Spans
pub mod Beginnings
pub mod Runnings
pub mod Blanks
pub mod Bookings
