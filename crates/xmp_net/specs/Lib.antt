pub mod Nodes
pub mod Traffic
pub mod Tables
pub mod Laws
pub mod Examples
