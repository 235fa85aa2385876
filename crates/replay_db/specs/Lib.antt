pub mod Auditing
pub mod Laws
pub mod Runs
pub mod TableAt
pub mod Types
pub mod Worlds
pub mod inner
