pub mod Resuming
pub mod Machines
