-- The laws of a text that is laid element by element, what follows of the text, and that answers are determined.
pub mod Rows
pub mod Onward
pub mod Spots
pub mod Parts
pub mod Asking
pub mod Read
pub mod Determined
