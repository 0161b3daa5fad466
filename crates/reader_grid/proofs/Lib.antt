-- Laws that the proofs of the functions cite, and that answers are determined.
pub mod Numbers
pub mod Checking
pub mod Determined
