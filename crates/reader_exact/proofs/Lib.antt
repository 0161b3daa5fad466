-- What is proved of a sound file: the walk over its bytes is the walk over its shapes.
pub mod Walks
pub mod Given
pub mod Chunks
pub mod Groups
pub mod Rings
pub mod Zones
pub mod Exact
