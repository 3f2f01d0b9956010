-- What a view answers.
pub mod Seen
