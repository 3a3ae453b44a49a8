-- The laws of the report.
pub mod Prints
pub mod Finds
pub mod Reports
