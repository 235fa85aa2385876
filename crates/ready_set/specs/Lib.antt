pub mod Ready
pub mod inner
