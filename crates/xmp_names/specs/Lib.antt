pub mod Rules
pub mod Typing
pub mod Expressions
pub mod Formats
pub mod Lists
pub mod Walk
pub mod Sizes
