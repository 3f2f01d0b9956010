-- The three facts, proved of every record that can be sealed, and then of every successful seal.
pub mod Cells
pub mod Rows
pub mod Facts
