-- What the journal's program makes of its input.
pub mod Answered
pub mod Counts
pub mod Runs
