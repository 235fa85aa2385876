pub mod Gives
pub mod inner
