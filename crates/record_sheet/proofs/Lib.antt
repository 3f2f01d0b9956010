-- The laws of the sheet.
pub mod Answers
pub mod Theorems
pub mod Fields
pub mod Told
