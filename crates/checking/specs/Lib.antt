-- What the checker program prints for its input.
pub mod Verdict
