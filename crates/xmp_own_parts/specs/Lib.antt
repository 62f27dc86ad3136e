pub mod Turns
pub mod Nests
pub mod Walks
