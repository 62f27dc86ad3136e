pub mod Counts
pub mod Views
pub mod Steps
pub mod Runs
pub mod Calls
pub mod Closing
pub mod ExampleLaws
