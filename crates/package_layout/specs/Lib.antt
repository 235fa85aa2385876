pub mod CompactReading
pub mod Counted
pub mod ReadResult
pub mod StartScript
pub mod Valid
pub mod Whole
pub mod inner
