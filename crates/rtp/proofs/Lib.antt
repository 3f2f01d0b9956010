-- The laws of lists, of places as whole numbers, and of the span.
pub mod Signed
pub mod Answers
pub mod Span
