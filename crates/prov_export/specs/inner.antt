pub mod Names
pub mod ObjectRefs
pub mod Texts
