-- What a script says.
pub mod Script
