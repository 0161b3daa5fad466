-- What each question answers.
pub mod Replies
