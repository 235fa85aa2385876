pub mod History
pub mod inner
