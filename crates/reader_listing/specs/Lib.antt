-- All zones that a position lies in.
pub mod All
pub mod Steps
