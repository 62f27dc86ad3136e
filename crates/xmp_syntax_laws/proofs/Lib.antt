pub mod Sound
pub mod Steps
pub mod Readings
pub mod EveryText
pub mod Depths
