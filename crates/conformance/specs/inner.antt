pub mod Counts
pub mod Place
pub mod Same
