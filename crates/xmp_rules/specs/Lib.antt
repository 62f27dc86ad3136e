pub mod Lists
pub mod Scopes
pub mod Spots
pub mod Constants
pub mod Rules
