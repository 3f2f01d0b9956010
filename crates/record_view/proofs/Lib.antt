-- What a view's counts show, and that every slice's view answers as the rules say.
pub mod Counted
pub mod Answers
