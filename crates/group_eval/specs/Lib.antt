pub mod Evaluating
pub mod Types
pub mod inner
