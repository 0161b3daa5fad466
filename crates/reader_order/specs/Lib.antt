-- Zones in the order of their names.
pub mod Order
pub mod Steps
