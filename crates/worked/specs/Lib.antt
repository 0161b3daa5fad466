-- A worked file.
pub mod File
