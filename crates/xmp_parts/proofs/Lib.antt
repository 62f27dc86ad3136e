pub mod Accepted
pub mod Dimensions
mod Firsts
pub mod FormsFit
pub mod HeldPoints
pub mod MadeLists
pub mod Padded
pub mod Rows
pub mod TargetsFit
pub mod Unbroken
pub mod Verdicts
pub mod VerdictLaws
pub mod WidthsFit
