-- That every map is read back from its text, and how long texts are.
pub mod Back
pub mod Lengths
