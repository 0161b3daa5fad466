-- What follows from the promises.
pub mod OpeningLaws
pub mod FullCheckLaws
pub mod Determined
pub mod Given
pub mod GivenChunks
