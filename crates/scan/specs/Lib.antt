-- Heads in the buffers (Heads), blocks loaded (Load), the contracts of the run over heads (Run).
pub mod Heads
pub mod Load
pub mod Run
