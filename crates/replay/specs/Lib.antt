-- What running a script comes to.
pub mod Run
