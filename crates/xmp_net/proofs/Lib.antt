pub mod Course
pub mod Progress
pub mod Orders
pub mod OneTraffic
pub mod Tables
pub mod Pair
