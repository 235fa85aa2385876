pub mod BoundAggregates
pub mod Columns
pub mod Folding
pub mod Grouping
pub mod Planning
pub mod Uniting
