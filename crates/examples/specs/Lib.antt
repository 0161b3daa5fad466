-- Worked files and what the full check says of them.
pub mod BrokenRules
pub mod DrawnZone
