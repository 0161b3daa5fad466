-- The question for a zone's name.
pub mod Asked
