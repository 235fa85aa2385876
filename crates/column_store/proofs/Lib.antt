pub mod CellLaws
pub mod ColumnLaws
pub mod FlagLaws
pub mod IntCellLaws
