pub mod Shape
pub mod Faults
pub mod Reading
pub mod SortedWorld
pub mod Generated
pub mod inner
