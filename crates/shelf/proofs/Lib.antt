-- The laws of a shelf's edges, its parts and its total; what reading it shows step by step; the shelf of some
-- records.
pub mod Laws
pub mod Steps
pub mod Written
