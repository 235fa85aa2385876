pub mod Checking
pub mod Filling
pub mod Kinds
pub mod Preparing
pub mod Templates
pub mod Types
