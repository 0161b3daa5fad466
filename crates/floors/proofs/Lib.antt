-- The code's floor, and what the floor means.
pub mod Flooring
pub mod FloorMeans
pub mod Compared
pub mod Examples
pub mod Determined
