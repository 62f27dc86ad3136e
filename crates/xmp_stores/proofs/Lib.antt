pub mod Beginnings
pub mod Counted
pub mod Steps
