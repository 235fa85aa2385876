pub mod ChildLaws
pub mod DependsLaws
pub mod PlaceLaws
