-- A MultiPolygon of RFC 7946 as text, and how the text is read.
pub mod Ascii
pub mod Decimals
pub mod Text
pub mod Reading
pub mod Marked
