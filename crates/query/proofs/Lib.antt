-- The laws of a query.
pub mod Parts
pub mod Judging
pub mod Fillings
pub mod Apart
pub mod Accepted
pub mod Written
pub mod Only
pub mod Examples
