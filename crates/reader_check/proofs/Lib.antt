-- What the rules say, by index; what the full check accepts; and that its answer is determined.
pub mod FullCheckLaws
pub mod Lowest
pub mod Facts
pub mod Rooms
pub mod Determined
