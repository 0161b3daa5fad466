-- Document 01, "Asking": containment, the walk over a group's chunks.
pub mod Groups
pub mod Steps
