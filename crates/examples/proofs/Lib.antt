-- What is said of accepted files, said of a worked one.
pub mod DrawnZone
