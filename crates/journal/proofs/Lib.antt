-- Laws of the entries that answer the input, and of runs, for the code.
pub mod AnsweredLaws
pub mod RunLaws
