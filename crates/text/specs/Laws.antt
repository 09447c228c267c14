pub mod Putting
pub mod Pieces
