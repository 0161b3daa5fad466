-- Laws of the questions, and what the definitions mean.
pub mod CellNumbers
pub mod Asking
pub mod Bounds
pub mod Accepted
pub mod Determined
