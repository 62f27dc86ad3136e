pub mod RowMajor
pub mod Boxes
pub mod Shadow
pub mod Nodes
pub mod Spread
pub mod Align
pub mod Held
pub mod Axes
