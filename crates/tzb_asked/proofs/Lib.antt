-- What follows from the questions' promises.
pub mod AskedLaws
pub mod Many
pub mod Zones
pub mod Determined
