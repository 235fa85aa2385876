pub mod Flat
pub mod Lineage
pub mod Needing
pub mod RowBlock
pub mod Rows
pub mod StandsFor
pub mod inner
