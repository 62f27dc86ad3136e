pub mod Counted
pub mod Declarations
pub mod Statements
pub mod Program
