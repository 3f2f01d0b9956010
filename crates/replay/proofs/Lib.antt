-- How a run goes on.
pub mod Laws
pub mod Outcomes
