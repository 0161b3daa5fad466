-- Answers one after another, lists laid piece by piece; laws of the stripes of a file; that answers are determined.
pub mod Reading
pub mod Laying
pub mod BuildingLaws
pub mod Loops
pub mod Built
pub mod Determined
