pub mod Changing
pub mod Types
pub mod Versions
pub mod inner
