-- What is proved of the lower crate's definitions, and what its functions' proofs share.
-- numbers and deltas
pub mod Determined
-- the ray test
pub mod Pattern
pub mod DeterminedRay
-- chunks
pub mod Skips
pub mod DeterminedChunk
pub mod NextRead
