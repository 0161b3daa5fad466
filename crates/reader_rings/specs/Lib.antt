-- Document 01, "Asking": containment in a ring.
pub mod Rings
pub mod Steps
