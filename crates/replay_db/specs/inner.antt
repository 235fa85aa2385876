pub mod KeptGroups
pub mod Logging
pub mod Recording
