pub mod ToldLaws
pub mod FormLaws
pub mod ReadLaws
pub mod ReadyLaws
pub mod NestLaws
pub mod EventLaws
