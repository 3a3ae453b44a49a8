-- Laws of the summary, the cursor and the body.
pub mod Summaries
pub mod Steps
pub mod Fillings
pub mod Bodies
pub mod Contents
pub mod Runs
