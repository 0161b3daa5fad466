-- What follows from the promises, and what the code's loops rest on.
pub mod TableLaws
pub mod Determined
pub mod Marks
pub mod Windows
