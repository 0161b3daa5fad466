-- Digits laid one by one, and that answers are determined; the other files are the code's proofs.
pub mod PlacesLaws
pub mod Determined
