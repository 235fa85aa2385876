pub mod TreeLaws
pub mod WayLaws
pub mod NumberLaws
pub mod SeenLaws
