-- The floor of a float.
pub mod Floor
pub mod Steps
