pub mod Cells
pub mod Columns
pub mod Flags
pub mod IntCells
pub mod Types
