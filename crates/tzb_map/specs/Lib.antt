-- Document 02, request 2026-01: a zone of a file as GeoJSON text.
pub mod Map
