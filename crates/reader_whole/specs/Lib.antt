-- All zones of a whole-number point.
pub mod Whole
