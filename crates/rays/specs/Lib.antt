-- What a point sees of a segment, in floats.
pub mod Ray
