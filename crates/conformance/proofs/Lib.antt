pub mod Judging
pub mod Wanting
