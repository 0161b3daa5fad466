-- Small laws on truth values, tests and whole numbers.
pub mod Truth
pub mod Parity
pub mod Whole
pub mod Determined
pub mod Told
pub mod Total
pub mod Picked
pub mod Signed
