pub mod Package
pub mod RunReading
pub mod StartScripts
pub mod Whole
