-- Reading gives back what the shortest form was made of, and nothing else is read.
pub mod VarintLaws
pub mod Digits
pub mod Shortest
pub mod Places
pub mod Unreadable
pub mod Shifted
