-- Laws of the order of names, and what the sort gives.
pub mod Sorted
pub mod Only
pub mod Shift
pub mod Halving
pub mod Merged
pub mod Determined
