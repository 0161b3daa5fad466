-- The chunk code's numbers.
pub mod Varint
pub mod Steps
