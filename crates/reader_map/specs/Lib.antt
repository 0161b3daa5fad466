-- Document 02, request 2026-01: a zone as a text in lent memory.
pub mod Map
pub mod Steps
