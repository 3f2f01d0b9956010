-- The laws, one file a chapter: a sample has that many scenes (Flat to Reached); its bytes, part by part (Pieces); the
-- calls (Answers); the arguments (Digits). That none has more is a law of `luma_laws` (Least, Most).
pub mod Flat
pub mod Plain
pub mod Tones
pub mod Scores
pub mod Starts
pub mod Luma
pub mod Reached
pub mod Pieces
pub mod Answers
pub mod Digits
