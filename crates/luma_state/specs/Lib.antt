pub mod Layout
pub mod State
pub mod Steps
pub mod Contract
