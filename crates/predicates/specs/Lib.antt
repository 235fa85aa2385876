pub mod Checking
pub mod Conditions
pub mod Equality
pub mod Fixing
pub mod Masking
pub mod Placing
pub mod Types
pub mod inner
