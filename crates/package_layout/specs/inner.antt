pub mod Bare
pub mod Order
