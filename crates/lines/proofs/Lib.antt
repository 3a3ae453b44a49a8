-- The laws of the lines.
pub mod Splits
pub mod Decimals
pub mod Lines
pub mod Printing
pub mod Sizes
pub mod Beginnings
pub mod Speaking
pub mod Examples
