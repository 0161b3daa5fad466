-- What the exports answer.
pub mod Exports
pub mod Opens
