pub mod AddLaws
pub mod BoundLaws
pub mod ColumnLaws
pub mod CoreLaws
pub mod GroupLaws
pub mod UnitingLaws
