-- The one vocabulary of answers: refusals, checks in order, values, walks.
pub mod Refusals
pub mod Answers
pub mod Checks
pub mod Walks
pub mod Over
