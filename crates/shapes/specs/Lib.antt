-- A zone as a file lays it out, what it means in exact geometry, the rules on its boxes, the walk that skips, and the outlines of its rings.
pub mod Shapes
pub mod Words
pub mod Walk
pub mod Layout
pub mod Example
pub mod Outline
pub mod Drawn
pub mod Rooms
