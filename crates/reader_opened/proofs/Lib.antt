-- What follows from the promises.
pub mod OpenedLaws
pub mod Determined
