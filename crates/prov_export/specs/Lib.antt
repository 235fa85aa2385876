pub mod Types
pub mod Ids
pub mod Document
pub mod Reading
pub mod Stopping
pub mod Dependence
pub mod Laws
pub mod inner
