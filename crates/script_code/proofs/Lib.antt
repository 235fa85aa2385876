pub mod KnownNames
pub mod NameTables
pub mod Resolving
pub mod SlotLists
