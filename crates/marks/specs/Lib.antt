-- Document 01, "The sixteen marked points".
pub mod Marks
