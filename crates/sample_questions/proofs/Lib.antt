pub mod Refusals
pub mod Taken
pub mod WhileFeeding
pub mod Passages
