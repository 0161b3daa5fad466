-- A chunk's points.
pub mod Delta
pub mod Points
pub mod Along
pub mod Decode
pub mod Scan
pub mod Trace
pub mod Count
pub mod Broken
pub mod Steps
