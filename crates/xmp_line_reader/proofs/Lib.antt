pub mod MaxOrMin
pub mod Dispatch
