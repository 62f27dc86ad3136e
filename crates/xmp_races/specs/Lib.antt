pub mod Footprints
pub mod Setting
pub mod Accesses
pub mod Statements
pub mod Syncs
pub mod Views
pub mod Program
