pub mod Rolls
pub mod Steps
pub mod Walks
