pub mod OfText
pub mod Members
pub mod Ends
