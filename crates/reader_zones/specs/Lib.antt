-- Document 01, "Asking": containment in a polygon and a zone.
pub mod Zones
