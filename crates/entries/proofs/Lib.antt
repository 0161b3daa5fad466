-- What follows from the forms, and laws for the code.
pub mod FormsLaws
pub mod PlacesLaws
pub mod ReadLaws
pub mod RoundTrip
