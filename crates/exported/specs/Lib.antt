-- The demands, said of the exports.
pub mod Calls
pub mod Words
pub mod Demand1
pub mod Places
pub mod Demand3
pub mod Answers
pub mod Maps
pub mod Stripes
pub mod Journal
