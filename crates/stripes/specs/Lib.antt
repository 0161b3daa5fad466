-- Document 02, 2026-02: what a group's stripes are, and all stripes as numbers.
pub mod Stripes
pub mod Numbers
