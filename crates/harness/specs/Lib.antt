-- What a read leaves that fails, and what a list says.
pub mod Reading
pub mod Saying
