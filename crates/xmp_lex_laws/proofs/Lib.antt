pub mod Searches
pub mod SpacesFound
pub mod TokensFound
pub mod FormsFound
pub mod EveryCut
pub mod EveryExpansion
