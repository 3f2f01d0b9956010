-- What a thirty-year reader may lean on.
pub mod Facts
