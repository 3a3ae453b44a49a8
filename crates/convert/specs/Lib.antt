-- The converter.
pub mod Convert
