pub mod Samples
pub mod Surveys
pub mod Sheets
