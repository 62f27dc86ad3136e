pub mod Verdict
pub mod Narrow
pub mod Parts
