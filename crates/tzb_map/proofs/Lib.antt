-- What follows from the promises.
pub mod MapLaws
pub mod Determined
