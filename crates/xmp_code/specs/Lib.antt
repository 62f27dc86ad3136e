pub mod Stacks
pub mod States
pub mod Ends
pub mod Actions
pub mod Acting
pub mod Fitting
pub mod Running
