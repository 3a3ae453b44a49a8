-- The laws of heads (Heads), of what they still have (Terms), of the run over them (Turns), of the buffers' parts (Parts) and of loading a body (Loadings).
pub mod Heads
pub mod Terms
pub mod Turns
pub mod Parts
pub mod Loadings
