-- The book's runs (Book), all intervals one after another (Run), out of gathered blocks (Blocks).
pub mod Stopped
pub mod Book
pub mod Run
pub mod Blocks
