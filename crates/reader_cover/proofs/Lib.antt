-- What the proofs of the functions lean on, and that answers are determined.
pub mod CoverLaws
pub mod AllLaws
pub mod Sums
pub mod Traces
pub mod Determined
