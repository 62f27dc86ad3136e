pub mod Grids
pub mod Whole
