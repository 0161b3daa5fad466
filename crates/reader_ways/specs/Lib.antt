-- Document 02, 2026-02: which way a group's chunks are walked, plainly or by stripes.
pub mod Ways
