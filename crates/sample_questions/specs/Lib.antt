pub mod State
pub mod Contract
pub mod WhileFeeding
pub mod Passage
