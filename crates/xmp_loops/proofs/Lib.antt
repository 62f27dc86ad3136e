pub mod SameLaws
pub mod ReachLaws
pub mod RoleLaws
pub mod LoopingLaws
