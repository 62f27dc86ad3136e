pub mod Machine
pub mod Stops
pub mod Once
pub mod Laws
pub mod Examples
