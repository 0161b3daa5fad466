-- What follows from the promises.
pub mod CodesLaws
pub mod Determined
