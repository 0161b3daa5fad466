-- What is known of a first point; that answers are determined.
pub mod GroupsLaws
pub mod Remembering
pub mod Determined
