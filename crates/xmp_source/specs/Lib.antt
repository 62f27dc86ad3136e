pub mod Source
