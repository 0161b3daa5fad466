-- What a chunk that decodes holds; what stands in a row.
pub mod Held
pub mod Rows
