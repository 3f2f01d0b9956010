pub mod Notes
pub mod Ends
