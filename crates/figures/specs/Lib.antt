-- What the functions promise, where that is more than one equation.
pub mod Units
pub mod Opening
