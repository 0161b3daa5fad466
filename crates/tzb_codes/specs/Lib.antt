-- Answers as single numbers.
pub mod Codes
