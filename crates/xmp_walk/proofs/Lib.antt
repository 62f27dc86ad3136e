pub mod Coarrays
mod Joins
pub mod Seen
