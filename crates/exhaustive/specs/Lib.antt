-- The query's lists as a search sees them (Lists), what the exhaustive ranker answers (Exhaustive), the merge of the lists and its contracts (Merge).
pub mod Lists
pub mod Exhaustive
pub mod Merge
