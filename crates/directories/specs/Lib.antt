-- The directories that a file holds, as shapes has them; a worked zone.
pub mod Directories
pub mod Example
