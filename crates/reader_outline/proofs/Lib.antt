-- Laws of points in lent numbers, of legs strung together, of the doubled area; and that answers are determined.
pub mod Spots
pub mod Turning
pub mod Filling
pub mod Rows
pub mod Sides
pub mod Stringing
pub mod Legs
pub mod Area
pub mod Drawing
pub mod Determined
