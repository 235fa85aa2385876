pub mod Pieces
pub mod Search
