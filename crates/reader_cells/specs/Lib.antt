-- What is asked of GRID.
pub mod Asked
