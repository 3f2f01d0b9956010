-- All rows of a record in one call.
pub mod Rows
