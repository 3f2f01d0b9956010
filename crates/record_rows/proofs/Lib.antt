-- How rows are laid over lent ones, the three answers, and that the rows are those of reading row by row.
pub mod Filling
pub mod Each
