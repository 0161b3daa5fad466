-- What the lower crate answers: numbers, deltas, the ray test, chunks.
pub mod Steps
