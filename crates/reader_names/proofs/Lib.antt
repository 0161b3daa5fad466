-- Laws of opening's checks of the names, and that answers are determined.
pub mod Rises
pub mod Determined
