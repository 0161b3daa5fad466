-- The float ray test at whole-number points is exact geometry.
pub mod Sides
pub mod Floats
pub mod Exact
pub mod Whole
pub mod Order
pub mod Loop
pub mod Warnings
