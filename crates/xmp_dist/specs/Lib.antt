pub mod Count
pub mod Table
pub mod Valid
pub mod Owner
