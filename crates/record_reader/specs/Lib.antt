-- What opening a record answers.
pub mod Opened
