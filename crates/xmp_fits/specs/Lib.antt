pub mod NumbersLie
