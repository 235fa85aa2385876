pub mod Sets
pub mod Selection
pub mod inner
