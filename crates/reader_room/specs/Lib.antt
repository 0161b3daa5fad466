-- The count of a ring's segments as the code goes about it.
pub mod Steps
