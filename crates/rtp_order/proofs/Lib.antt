-- The laws of places and of order.
pub mod Order
pub mod Firsts
pub mod Rows
pub mod Stayed
