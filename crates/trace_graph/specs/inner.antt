pub mod Building
pub mod Pieces
