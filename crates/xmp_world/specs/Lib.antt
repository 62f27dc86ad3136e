pub mod Ends
pub mod Counts
pub mod Kept
pub mod Reports
pub mod Gathering
