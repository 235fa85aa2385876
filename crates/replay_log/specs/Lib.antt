pub mod Replays
pub mod Types
pub mod inner
