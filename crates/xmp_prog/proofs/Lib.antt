pub mod Rolls
mod ExampleLaws
mod SquareLaws
