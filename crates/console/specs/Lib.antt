-- What a call of the system answered, and what comes of it.
pub mod Calls
