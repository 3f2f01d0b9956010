-- The laws that the functions' proofs stand on, one file a chapter.
pub mod Products
pub mod SizeLaws
