-- The journal's entries.
pub mod Entry
pub mod Forms
pub mod Reading
