-- The laws of the converter.
pub mod Layouts
pub mod Turnings
pub mod Lists
pub mod Seatings
pub mod Alike
pub mod Leaves
