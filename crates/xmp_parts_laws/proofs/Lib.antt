pub mod SomeParts
