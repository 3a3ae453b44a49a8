-- What the search program prints for its input.
pub mod Report
