pub mod Words
pub mod Names
pub mod Table
pub mod Log
