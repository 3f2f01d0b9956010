-- Of the counts that a seal takes, the index lies between 1 and 5 and is no NaN.
pub mod Bound
pub mod Taken
