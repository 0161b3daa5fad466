-- That answers are determined.
pub mod WalksLaws
pub mod RefusalsLaws
pub mod AnswersLaws
pub mod CheckLaws
pub mod Determined
pub mod OverLaws
