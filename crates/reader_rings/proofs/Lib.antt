-- That answers are determined.
pub mod RingsLaws
pub mod Determined
