pub mod Movers
pub mod Choices
pub mod Progress
pub mod Examples
