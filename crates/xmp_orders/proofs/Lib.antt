pub mod Runs
pub mod Rounds
pub mod Loops
pub mod Counters
