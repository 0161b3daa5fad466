-- What is proved of the shapes: the walk that skips is exact; what outlines keep.
pub mod Words
pub mod Sound
pub mod Whole
pub mod Elsewhere
pub mod Agree
pub mod Floats
pub mod Fits
pub mod File
pub mod Outline
pub mod Room
