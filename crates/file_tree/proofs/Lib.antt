pub mod Lines
pub mod Onto
pub mod Seen
pub mod Views
