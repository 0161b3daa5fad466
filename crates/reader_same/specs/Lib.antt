-- Document 02, 2026-02: what it means that numbers were built from a record and a file.
pub mod Same
