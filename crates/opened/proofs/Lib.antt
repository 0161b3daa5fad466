-- What follows from the widths.
pub mod WidthsLaws
