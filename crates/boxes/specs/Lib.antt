-- What a box answers.
pub mod Box
