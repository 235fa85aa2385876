pub mod FlagsLaw
pub mod Running
pub mod Stands
pub mod Stops
pub mod Types
pub mod Flags
pub mod inner
