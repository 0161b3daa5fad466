-- Laws of the question, of opening and the question together, and that answers are determined.
pub mod Places
pub mod Named
pub mod Accepted
pub mod Determined
