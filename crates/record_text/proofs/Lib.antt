-- The laws of lines.
pub mod Texts
pub mod Made
pub mod Worked
