-- What follows from the exports' promises.
pub mod OpensLaws
pub mod ExportsLaws
pub mod OpenedHeld
pub mod Kept
pub mod Determined
