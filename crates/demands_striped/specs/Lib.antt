-- Demand 3 by stripes.
pub mod Striped
