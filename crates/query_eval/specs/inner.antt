pub mod Abbreviating
pub mod Asked
pub mod Conditions
pub mod Joining
pub mod KeyLookup
pub mod Slots
pub mod Sources
pub mod TableScan
