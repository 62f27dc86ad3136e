pub mod RowLaws
pub mod ReportLaws
pub mod WorldReports
pub mod Numbered
pub mod PlaceLaws
pub mod GatherLaws
