pub mod InitialRows
pub mod inner
