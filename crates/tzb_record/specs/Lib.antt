-- The opened record as bytes.
pub mod Layout
