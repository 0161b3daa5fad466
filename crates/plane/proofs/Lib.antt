-- What follows from the definitions.
pub mod DomainLaws
pub mod Turns
