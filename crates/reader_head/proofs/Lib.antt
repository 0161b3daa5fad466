-- What follows from the promises.
pub mod HeadLaws
pub mod Determined
