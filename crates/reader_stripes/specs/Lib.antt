-- Document 02, 2026-02: the stripes of an opened file, built.
pub mod Building
pub mod Steps
