-- What follows from the layout, and laws for the code.
pub mod LayoutLaws
pub mod RoundTrip
pub mod Determined
