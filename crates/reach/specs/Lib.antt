pub mod Types
pub mod Order
pub mod Lent
pub mod Reach
pub mod Found
pub mod ReachLaws
pub mod Depends
pub mod inner
