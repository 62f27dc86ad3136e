pub mod Arithmetic
pub mod Reduction
pub mod Decimal
