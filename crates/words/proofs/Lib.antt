-- The laws of words, whatever their width.
pub mod Laws
pub mod Behind
