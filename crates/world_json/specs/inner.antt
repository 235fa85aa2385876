pub mod NameSets
pub mod Numbers
pub mod Taking
pub mod Parts
pub mod Typed
