-- What is proved of boxes.
pub mod Determined
