pub mod Runs
pub mod Feeding
