pub mod LeftLogs
mod Replaying
mod RunLaws
pub mod SortedLogs
mod StartFiles
mod ValidPackages
