-- What a list's view shows (View), hits in lent rows (Rows), the book beside them (Search).
pub mod View
pub mod Rows
pub mod Search
