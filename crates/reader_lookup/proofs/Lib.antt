-- Laws of the question.
pub mod AskingLaws
pub mod Listed
pub mod Determined
