pub mod Classes
pub mod Depths
pub mod Effects
pub mod Going
pub mod Kinds
pub mod SoFar
