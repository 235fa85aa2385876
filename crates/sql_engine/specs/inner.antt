pub mod Answering
pub mod Keeping
pub mod Listing
pub mod Taking
