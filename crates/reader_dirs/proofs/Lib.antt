-- What the proofs of the functions lean on, what an accepted file's directories tell, and that answers are determined.
pub mod Loops
pub mod Accepted
pub mod Determined
