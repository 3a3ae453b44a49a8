-- What the search program takes for its query, and what it prints; what a program says where its input could not be read.
pub mod Split
pub mod Text
pub mod Book
pub mod Said
