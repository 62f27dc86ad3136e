pub mod Rows
pub mod Turning
pub mod Unfolding
pub mod Worlds
