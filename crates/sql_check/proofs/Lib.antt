pub mod Grouped
pub mod Lists
pub mod Mapped
pub mod Parts
pub mod Placed
pub mod Steps
pub mod Unions
pub mod Walks
