pub mod Files
pub mod Runs
pub mod Wanted
pub mod inner
