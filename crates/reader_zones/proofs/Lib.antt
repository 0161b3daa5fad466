-- That answers are determined.
pub mod ZonesLaws
pub mod Determined
