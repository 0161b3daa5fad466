-- Laws of a chunk's points, and a table of small chunks.
pub mod TraceLaws
pub mod ScanLaws
pub mod CountLaws
pub mod PointsLaws
pub mod DeltaLaws
pub mod DecodeLaws
pub mod AlongLaws
pub mod Sums
pub mod Decoded
pub mod Turns
pub mod Neighbours
pub mod Counting
pub mod Breaking
pub mod Shifted
pub mod Worked
