-- What follows of the code's promises.
pub mod Determined
