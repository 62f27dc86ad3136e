pub mod Digits
pub mod Expressions
pub mod FirstSteps
pub mod FirstTrees
pub mod Programs
pub mod Tables
pub mod BlockLaws
pub mod Unique
