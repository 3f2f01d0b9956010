-- The laws of rows that are looked at one by one, and of the tests.
pub mod Rows
pub mod Tests
