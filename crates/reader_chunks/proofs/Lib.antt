-- What follows from the promises: answers are determined; what decoding accepts.
pub mod ChunksLaws
pub mod CheckedLaws
pub mod Ranges
pub mod Places
pub mod Determined
pub mod Decodes
