pub mod Pieces
pub mod Rule
