pub mod Incoming
pub mod Marks
pub mod Search
