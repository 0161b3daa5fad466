-- What a question about a directory record answers.
pub mod Records
