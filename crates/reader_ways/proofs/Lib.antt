-- Laws of the ways; that answers are determined.
pub mod WaysLaws
pub mod Heights
pub mod Determined
