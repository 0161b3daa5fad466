-- Demand 3 by stripes, of every file.
pub mod Striped
