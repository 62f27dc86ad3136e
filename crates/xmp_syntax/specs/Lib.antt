pub mod Parts
pub mod Reading
pub mod Grammar
pub mod Trees
pub mod View
pub mod Spell
pub mod Fits
pub mod Refused
pub mod Shape
pub mod Fronts
-- lemmas that crates above share
pub mod Steps
pub mod Seen
