-- Demand 3, and what else is proved of a file that the full check accepts.
pub mod Sums
pub mod Rules
pub mod Room
pub mod Accepted
pub mod Words
pub mod Demand3
pub mod Hits
pub mod Lookups
pub mod NeverRefused
