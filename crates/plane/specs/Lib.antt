-- Geometry in whole numbers: what a segment, a line of points and a closed ring say of a point.
pub mod Places
pub mod Sight
pub mod Tally
pub mod Segment
pub mod Domain
pub mod Turns
pub mod Lines
pub mod Runs
