-- Laws that pages name and no proof cites any more, a module for each crate whose definitions they are over.
pub mod Answer
pub mod Plane
pub mod Replies
pub mod Boxes
pub mod Fields
pub mod Texts
pub mod Records
pub mod Named
pub mod Codes
pub mod Check
pub mod Cover
pub mod Asked
pub mod Map
pub mod Journal
pub mod Order
