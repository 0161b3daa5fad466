-- Which zone a position lies in.
pub mod Asking
