-- The journal of answers.
pub mod Journal
pub mod Steps
