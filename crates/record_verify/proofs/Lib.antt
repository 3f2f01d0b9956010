-- Sums and checks over rows, and what is answered by what was tested.
pub mod Sums
pub mod Answers
pub mod Rows
pub mod Accepted
pub mod Bound
pub mod Worked
