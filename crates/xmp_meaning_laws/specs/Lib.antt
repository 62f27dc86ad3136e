pub mod Laws
pub mod Tuples
pub mod Near
pub mod Noted
pub mod Agreement
