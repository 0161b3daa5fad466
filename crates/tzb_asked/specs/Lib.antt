-- What is asked with the opened record as bytes.
pub mod Asked
