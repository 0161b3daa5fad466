-- What the proofs of the functions lean on, and that answers are determined.
pub mod RecordsLaws
pub mod Parts
pub mod ByRow
pub mod Determined
