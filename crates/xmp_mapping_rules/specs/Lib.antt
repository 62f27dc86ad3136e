pub mod Numbers
pub mod MappingRules
pub mod Lines
