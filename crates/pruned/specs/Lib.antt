-- What the pruned ranker answers, and what the book's runs then hold, for every input.
pub mod Pruned
