-- Demand 3, and what else holds of a file that the full check accepts.
pub mod Accepted
pub mod Words
pub mod Demand3
pub mod NeverRefused
pub mod Lookups
