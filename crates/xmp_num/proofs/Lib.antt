pub mod BitLaws
pub mod ReadBack
pub mod ReductionLaws
pub mod Runs
pub mod Scanning
pub mod Wraps
