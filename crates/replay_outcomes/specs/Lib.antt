-- Outcomes as bytes.
pub mod Codes
