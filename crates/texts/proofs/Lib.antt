-- What the order is, and that answers are determined.
pub mod Words
pub mod Bytes
pub mod Determined
