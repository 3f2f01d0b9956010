-- What writing a shelf answers and leaves, and what is proved of it.
pub mod Writing
