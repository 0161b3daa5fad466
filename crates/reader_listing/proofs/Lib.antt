-- Laws of the list, and that answers are determined.
pub mod AllLaws
pub mod Gathered
pub mod Placed
pub mod Meaning
pub mod Determined
