-- Laws of the whole-number list, what it means, and that answers are determined.
pub mod WholeLaws
pub mod Meaning
pub mod Determined
