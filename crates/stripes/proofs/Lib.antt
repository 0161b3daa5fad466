-- What is proved of stripes.
pub mod Heights
pub mod StripesLaws
pub mod NeedLaws
pub mod Determined
pub mod Worked
