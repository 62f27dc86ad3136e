pub mod Directives
pub mod MappingLines
