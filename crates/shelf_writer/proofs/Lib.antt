-- The laws of lengths and of records end to end; what the writer does, step by step; what is proved of writing.
pub mod Laws
pub mod Steps
pub mod Theorems
