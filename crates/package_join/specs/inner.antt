pub mod Copying
pub mod Picked
