pub mod ItemsRead
pub mod PartsRead
pub mod FirstBreak
pub mod Statements
pub mod BlockParts
pub mod BlockViews
pub mod OneBreak
