pub mod Ends
pub mod LineProps
pub mod Lines
pub mod Turns
pub mod Moves
pub mod Nests
pub mod Outcomes
pub use Rattle.xmp_num.specs.Arithmetic
