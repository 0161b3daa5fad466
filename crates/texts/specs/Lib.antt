-- The order of texts by their bytes.
pub mod Spelled
