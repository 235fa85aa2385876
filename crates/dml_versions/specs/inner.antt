pub mod Finding
pub mod Fixing
pub mod Holding
pub mod Making
pub mod Needing
pub mod Testing
