pub mod Finishing
pub mod Merging
pub mod Picking
pub mod Projecting
pub mod StoredSources
pub mod Types
pub mod inner
