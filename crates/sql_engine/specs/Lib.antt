pub mod Asking
pub mod Types
pub mod inner
