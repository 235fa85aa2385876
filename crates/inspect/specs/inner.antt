pub mod ChildRoom
pub mod Named
pub mod ProcessPlaces
